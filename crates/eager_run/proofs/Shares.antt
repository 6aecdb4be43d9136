-- What a node has of two lines, as finite maps: what they answer, and what putting leaves.
use Rattle.std.proofs.Common.{◌≡◌, ℕ, Bool, true, false, cond, ◌==◌, ◌+◌, nat_le, [], ◌∷◌, Some, None, Option, unwrap_or, refl, sym, ap, ◌∙◌, arith}
use Rattle.std.proofs.lemmas.Bool.Decides.{nat_tests}
use Rattle.std.specs.Ordering.{nat_cmp, eq_by_cmp}
use Rattle.std.specs.Cmp.{nat_cmp_total, unsigned_tied}
use Rattle.std.specs.FinMap as fin
use Rattle.line_map.specs.Sizes.{Sizes}
use Rattle.op_model.specs.Lines.{Copy, Absent, Shared, Exclusive, Header, is_pending}
use Rattle.op_model.specs.Shares.{Share, Copies, Headers, copy_in, header_in, put_copy, pending_among, is_set_free, is_set_taken}
use Rattle.op_model.specs.Run.Runs.{start_share}
use Rattle.op_model.proofs.Public.{get-put}
use Rattle.row_examples.proofs.Public.{get-none, maps, over}
use Rattle.row_examples.specs.Types.{Want}
use Rattle.eager_run.specs.Worked.{worked}

-- the lines x and y, and their numbers
pub data Line : Type 0 where
  line_x : Line
  line_y : Line

abbrev pub number : Line → ℕ
number line_x = 0
number line_y = 1

abbrev pub sizes : Sizes
sizes = worked.sizes

-- the copies of x and of y
abbrev some_copy : Copies → ℕ → Copy → Copies
some_copy copies line Absent = copies
some_copy copies line copy = fin.insert copies line copy

unfoldable pub copies_of : Copy → Copy → Copies
copies_of x y = some_copy (some_copy fin.empty 1 y) 0 x

-- the copies of this line and of the other one
abbrev pub copies_on : Line → Copy → Copy → Copies
copies_on line_x own other = copies_of own other
copies_on line_y own other = copies_of other own

-- the headers of x and of y, and those of this line and of the other one
unfoldable pub headers_of : Header → Header → Headers
headers_of x y = fin.insert (fin.insert fin.empty 1 y) 0 x

abbrev pub headers_on : Line → Header → Header → Headers
headers_on line_x own other = headers_of own other
headers_on line_y own other = headers_of other own

-- another node than node 0, which has done this many operations; and node 0, which has no copy and no program
abbrev pub node_on : Line → ℕ → ℕ → Option Want → Copy → Copy → Share
node_on line node place want own other = record { place = place; want = want; copies = copies_on line own other; headers = (start_share sizes node).headers }

abbrev pub home_on : Line → Header → Header → Share
home_on line own other = record { place = 0; want = None; copies = fin.empty; headers = headers_on line own other }

-- ---- what these maps answer

entry_of : Copy → Option Copy
entry_of Absent = None
entry_of copy = Some copy

tied : {A : Type 0} (q k : ℕ) (a b : A) → cond (eq_by_cmp nat_cmp q k) a b ≡ cond (q == k) a b
tied q k a b = ap (λ (same : Bool). cond same a b) (unsigned_tied q k)

get-without : {X : Type 0} (m : fin.FinMap nat_cmp X) (k q : ℕ) → fin.get (fin.remove m k) q ≡ cond (q == k) None (fin.get m q)
get-without m k q = fin.get-remove nat_cmp_total m k q ∙ tied q k None (fin.get m q)

get-put_copy : (copies : Copies) (line : ℕ) (copy : Copy) (q : ℕ) → fin.get (put_copy copies line copy) q ≡ cond (q == line) (entry_of copy) (fin.get copies q)
unfolding entry_of
get-put_copy copies line Absent q = get-without copies line q
get-put_copy copies line (Shared words) q = get-put copies line (Shared words) q
get-put_copy copies line (Exclusive words) q = get-put copies line (Exclusive words) q

unset : {A : Type 0} (q k : ℕ) (same : Bool) (m : Option A) → (q == k) ≡ same → (q ≡ k → m ≡ None) → m ≡ cond same None m
unset q k true m e none = none (grind (arith, nat_tests))
unset q k false m e none = refl

get-some : (copies : Copies) (line : ℕ) (copy : Copy) (q : ℕ) → fin.get copies line ≡ None → fin.get (some_copy copies line copy) q ≡ cond (q == line) (entry_of copy) (fin.get copies q)
unfolding entry_of
get-some copies line Absent q none = unset q line (q == line) (fin.get copies q) refl (λ same. ap (fin.get copies) same ∙ none)
get-some copies line (Shared words) q none = get-put copies line (Shared words) q
get-some copies line (Exclusive words) q none = get-put copies line (Exclusive words) q

get-y : (y : Copy) (q : ℕ) → fin.get (some_copy fin.empty 1 y) q ≡ cond (q == 1) (entry_of y) None
get-y y q = get-some fin.empty 1 y q (get-none 1) ∙ ap (cond (q == 1) (entry_of y)) (get-none q)

get-copies : (x y : Copy) (q : ℕ) → fin.get (copies_of x y) q ≡ cond (q == 0) (entry_of x) (cond (q == 1) (entry_of y) None)
unfolding copies_of
get-copies x y q = get-some (some_copy fin.empty 1 y) 0 x q (get-y y 0) ∙ ap (cond (q == 0) (entry_of x)) (get-y y q)

back : (copy : Copy) → unwrap_or (entry_of copy) Absent ≡ copy
unfolding entry_of
back Absent = refl
back (Shared words) = refl
back (Exclusive words) = refl

-- a node has the copy of a line that it is said to have
pub copy-on : (line : Line) (own other : Copy) → copy_in (copies_on line own other) (number line) ≡ own
copy-on line_x own other = ap (λ (o : Option Copy). unwrap_or o Absent) (get-copies own other 0) ∙ back own
copy-on line_y own other = ap (λ (o : Option Copy). unwrap_or o Absent) (get-copies other own 1) ∙ back own

-- a copy that is put is that of its line, and the other one stays
under : {A : Type 0} (q : ℕ) (is_x is_y : Bool) (x new old none : A) → (q == 0) ≡ is_x → (q == 1) ≡ is_y → cond is_y new (cond is_x x (cond is_y old none)) ≡ cond is_x x (cond is_y new none)
under q true true x new old none e f = let wrong : ◌≡◌ {A = ℕ} 0 1 = grind (arith, nat_tests) in absurd (omega arith)
under q true false x new old none e f = refl
under q false true x new old none e f = refl
under q false false x new old none e f = refl

pub put-on : (line : Line) (own other new : Copy) → put_copy (copies_on line own other) (number line) new ≡ copies_on line new other
put-on line_x own other new =
    fin.same_map nat_cmp_total fin.nat_cmp-IsAntisymmetric _ _ (λ q.
    get-put_copy (copies_of own other) 0 new q ∙ ap (cond (q == 0) (entry_of new)) (get-copies own other q) ∙ over (q == 0) (entry_of new) (entry_of own) _ ∙ sym (get-copies new other q))
put-on line_y own other new =
    fin.same_map nat_cmp_total fin.nat_cmp-IsAntisymmetric _ _ (λ q.
    get-put_copy (copies_of other own) 1 new q ∙ ap (cond (q == 1) (entry_of new)) (get-copies other own q)
    ∙ under q (q == 0) (q == 1) (entry_of other) (entry_of new) (entry_of own) None refl refl ∙ sym (get-copies other new q))

-- the sets of the two lines differ
pub no-conflict : (line : Line) (own other : Copy) → is_set_taken sizes (copies_on line own other) (number line) ≡ false
unfolding copies_of
no-conflict line_x Absent Absent = simp maps refl
no-conflict line_x Absent (Shared words) = simp maps refl
no-conflict line_x Absent (Exclusive words) = simp maps refl
no-conflict line_x (Shared old) Absent = simp maps refl
no-conflict line_x (Shared old) (Shared words) = simp maps refl
no-conflict line_x (Shared old) (Exclusive words) = simp maps refl
no-conflict line_x (Exclusive old) Absent = simp maps refl
no-conflict line_x (Exclusive old) (Shared words) = simp maps refl
no-conflict line_x (Exclusive old) (Exclusive words) = simp maps refl
no-conflict line_y Absent Absent = simp maps refl
no-conflict line_y Absent (Shared words) = simp maps refl
no-conflict line_y Absent (Exclusive words) = simp maps refl
no-conflict line_y (Shared old) Absent = simp maps refl
no-conflict line_y (Shared old) (Shared words) = simp maps refl
no-conflict line_y (Shared old) (Exclusive words) = simp maps refl
no-conflict line_y (Exclusive old) Absent = simp maps refl
no-conflict line_y (Exclusive old) (Shared words) = simp maps refl
no-conflict line_y (Exclusive old) (Exclusive words) = simp maps refl

pub alone-on : (line : Line) (other : Copy) → is_set_free sizes (copies_on line Absent other) (number line) ≡ true
unfolding copies_of
alone-on line_x Absent = simp maps refl
alone-on line_x (Shared words) = simp maps refl
alone-on line_x (Exclusive words) = simp maps refl
alone-on line_y Absent = simp maps refl
alone-on line_y (Shared words) = simp maps refl
alone-on line_y (Exclusive words) = simp maps refl

-- the same of headers
pub header-on : (line : Line) (own other : Header) → header_in sizes (headers_on line own other) (number line) ≡ own
unfolding headers_of header_in
header-on line_x own other = simp maps refl
header-on line_y own other = simp maps refl

get-headers : (x y : Header) (q : ℕ) → fin.get (headers_of x y) q ≡ cond (q == 0) (Some x) (cond (q == 1) (Some y) None)
unfolding headers_of
get-headers x y q = get-put _ 0 x q ∙ ap (cond (q == 0) (Some x)) (get-put fin.empty 1 y q ∙ ap (cond (q == 1) (Some y)) (get-none q))

pub put-header : (line : Line) (own other new : Header) → fin.insert (headers_on line own other) (number line) new ≡ headers_on line new other
put-header line_x own other new =
    fin.same_map nat_cmp_total fin.nat_cmp-IsAntisymmetric _ _ (λ q.
    get-put (headers_of own other) 0 new q ∙ ap (cond (q == 0) (Some new)) (get-headers own other q) ∙ over (q == 0) (Some new) (Some own) _ ∙ sym (get-headers new other q))
put-header line_y own other new =
    fin.same_map nat_cmp_total fin.nat_cmp-IsAntisymmetric _ _ (λ q.
    get-put (headers_of other own) 1 new q ∙ ap (cond (q == 1) (Some new)) (get-headers other own q)
    ∙ under q (q == 0) (q == 1) (Some other) (Some new) (Some own) None refl refl ∙ sym (get-headers other new q))

entries-headers : (x y : Header) → fin.entries (headers_of x y) ≡ (0, x) ∷ (1, y) ∷ []
unfolding headers_of
entries-headers x y = simp maps refl

-- one more line may be pending where this one isn't
one-at-most : (pending : Bool) → (nat_le 2 (0 + cond pending 1 0) ≡ false) × (nat_le 2 (0 + cond pending 1 0 + 0) ≡ false)
one-at-most true = (refl, refl)
one-at-most false = (refl, refl)

pub roomy-on : (line : Line) (own other : Header) → is_pending own ≡ false → nat_le 2 (pending_among (headers_on line own other)) ≡ false
roomy-on line_x own other idle = rw (entries-headers own other, idle) (one-at-most (is_pending other)).0
roomy-on line_y own other idle = rw (entries-headers other own, idle) (one-at-most (is_pending other)).1
