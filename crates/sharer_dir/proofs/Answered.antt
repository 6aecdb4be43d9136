-- What the answers of the calls below say: which case it is, and that a plain directory never lacks room.
use Rattle.std.specs.Prelude.{◌≡◌, ℕ, ◌<◌, ◌≤◌, ◌==◌, Bool, true, false, not, ◌||◌, List, [], ◌∷◌, length, slice_get, Option, Some, None, is_some, Result, Ok, Err, MatchResult, OnOk, IsErr, IsTrue, IfSome, Contains, ◌↔◌}
use Rattle.std.specs.Result.{is_err}
use Rattle.std.specs.Option.{option_eq}
use Rattle.std.specs.Prelude.{option_map, slice_index_or, zero, suc}
use Rattle.std.proofs.Common.{cond, MatchOption, refl, sym, ap, subst, ◌∙◌, arith, set, get_or}
use Rattle.std.proofs.lemmas.Bool.Decides.{nat_tests}
use Rattle.std.proofs.lemmas.List.{get_or_read, set-get_or, length-map}
use Rattle.op_model.specs.Nodes.{Nodes, none, listed, enlist, count, same_nodes, listed-enlist}
use Rattle.op_model.specs.Lines.{nobody_listed}
use Rattle.link_store.specs.Pools.{Chain, Pool, chain_of, links_of, times_in, IsLinkOf}
use Rattle.link_store.proofs.Public.{contains_times, times_contains}
use Rattle.dir_header.specs.Sharers.{with_list, list_at, needs_link, free_in, held_by, Linked}
use Rattle.dir_header.specs.Plain.{PlainView, plain_directory}
use Rattle.sharer_dir.specs.Linked.{LinkedView, head_at, set_at, nodes_in, Stands, IsLinkedDir, is_head, line_among, linked_directory}
use Rattle.sharer_dir.specs.Kept.{IsKept}
use Rattle.sharer_dir.proofs.Changed.{sets_after}
use Rattle.sharer_dir.proofs.Directories.{free_all, held_chain}

-- where there is fails error, what is said of the answer holds
pub on_ok : {A E : Type 0} (r : Result A E) (P : Type 0) → (IsErr r → ⊥) → OnOk r P → P
on_ok (Ok x) P never said = said
on_ok (Err e) P never said = absurd (never refl)

pub never_false : {P : Type 0} → IsTrue false × P → ⊥
never_false both = let e = both.0 in cc

-- the head of a line's list, as it was read
pub head_read : (heads : List (Option ℕ)) (m : ℕ) (head : Option ℕ) → m < length heads → head ≡ get_or heads m head → get_or heads m None ≡ head
head_read heads m head l is = sym (get_or_read heads m head l is None)

pub no_head : (head : Option ℕ) (b : Bool) → is_some head ≡ not b → b ≡ true → head ≡ None
no_head None b is holds = refl
no_head (Some head) b is holds = let e : true ≡ not true = is ∙ ap not holds in cc

pub some_head : (head : Option ℕ) (b : Bool) → is_some head ≡ not b → b ≡ false → (node : ℕ) × (head ≡ Some node)
some_head None b is holds = let e : false ≡ not false = is ∙ ap not holds in cc
some_head (Some head) b is holds = (head, refl)

-- whether the node is the head
pub head_is : (head : Option ℕ) (node : ℕ) (b : Bool) → b ≡ option_eq (λ x y. x == y) head (Some node) → b ≡ true → head ≡ Some node
head_is None node b is holds = let e : false ≡ true = sym is ∙ holds in cc
head_is (Some head) node b is holds = let e : (head == node) ≡ true = sym is ∙ holds in let same : head ≡ node = grind (arith, nat_tests, e) in ap Some same

pub head_is_not : (head : Option ℕ) (node : ℕ) (b : Bool) → b ≡ option_eq (λ x y. x == y) head (Some node) → b ≡ false → is_head head node ≡ false
head_is_not None node b is fails = refl
head_is_not (Some head) node b is fails = sym is ∙ fails

-- a link was free
pub some_free : {E : Type 0} (r : Result ℕ E) (free : List ℕ) (P : E → Type 0) → MatchResult r (λ link. slice_get free 0 ≡ Some link) P → false ≡ is_err r → (link : ℕ) × (rest : List ℕ) × (free ≡ link ∷ rest)
some_free (Ok link) [] P is fails = cc
some_free (Ok link) (x ∷ rest) P is fails = (x, rest, refl)
some_free (Err e) free P is fails = cc

-- or none was
pub none_free : {E : Type 0} (r : Result ℕ E) (free : List ℕ) → MatchResult r (λ link. slice_get free 0 ≡ Some link) (λ e. free ≡ []) → true ≡ is_err r → free ≡ []
none_free (Ok link) free is holds = cc
none_free (Err e) free is holds = is

-- a plain directory in which one list changed keeps the sets of the linked one
pub kept_by : (heads heads' : List (Option ℕ)) (pool pool' : Pool) (plain plain' : PlainView) (m : ℕ) (list : Nodes) → IsKept heads pool plain → plain_directory plain' ≡ with_list (plain_directory plain) m list → IsLinkedDir (record { heads = heads'; pool = pool'; sets = set plain.lists m list }) → IsKept heads' pool' plain'
kept_by heads heads' pool pool' plain plain' m list is after linked =
    let s = sets_after plain plain' m list after in
    record { linked = subst (λ sets. IsLinkedDir (record { heads = heads'; pool = pool'; sets = sets })) (sym s.0) linked; bound = s.1 ∙ is.bound }

-- a list with a head isn't empty
pub somebody : (head : ℕ) (chain : Chain) (set : Nodes) → Stands (Some head) chain set → nobody_listed set ≡ false
somebody head chain set is = let many = is.many in let some : 1 ≤ count set = omega (arith, many) in grind (arith, nat_tests)

pub nobody : (chain : Chain) (set : Nodes) → Stands None chain set → nobody_listed set ≡ true
nobody chain set is = let empty = ap length (is.empty refl) in let z : length (nodes_in None chain) ≡ 0 = ap (λ (c : Chain). length (nodes_in None c)) (is.empty refl) in let many = is.many in let none : count set ≡ 0 = omega (arith, many, z) in grind (arith, nat_tests)

-- a node that is listed is added again
enlist-present : (set : Nodes) (node : ℕ) → listed set node ≡ true → enlist set node ≡ set
enlist-present set node there = same_nodes (enlist set node) set (λ q. listed-enlist set node q ∙ by q (q == node) refl)
  where
    by : (q : ℕ) (b : Bool) → (q == node) ≡ b → (b || listed set q) ≡ listed set q
    by q true e = let same : q ≡ node = grind (arith, nat_tests, e) in sym (ap (listed set) same ∙ there)
    by q false e = refl

pub added_again : (dir : LinkedView) (m node : ℕ) → listed (set_at dir m) node ≡ true → linked_directory dir ≡ with_list (linked_directory dir) m (enlist (list_at (linked_directory dir) m) node)
added_again dir m node there =
    let list : Nodes = set_at dir m in
    let same : set dir.sets m (enlist list node) ≡ dir.sets = ap (set dir.sets m) (enlist-present list node there) ∙ set-get_or dir.sets m none in
    ap (λ sets. record (linked_directory dir) { lists = sets }) (sym same)

-- a link is needed and none is free
pub no_room : (dir : LinkedView) (m node head : ℕ) → IsLinkedDir dir → m < length dir.sets → head_at dir m ≡ Some head → listed (set_at dir m) node ≡ false → dir.pool.free ≡ [] → IsTrue (needs_link (linked_directory dir) m node) × (free_in (linked_directory dir) ≡ 0)
no_room dir m node head is l some absent none =
    let full = somebody head (chain_of dir.pool m) (set_at dir m) (rw (← some) (is.stands m l)) in
    let free = free_all dir is in
    let empty = ap length none in
    (rw (absent, full) refl, omega (arith, free, empty))

-- no link is needed, or one is free
pub head_has_room : (dir : LinkedView) (m node : ℕ) → IsLinkedDir dir → m < length dir.sets → head_at dir m ≡ None → listed (set_at dir m) node ≡ false → IsTrue (needs_link (linked_directory dir) m node) → ⊥
head_has_room dir m node is l empty absent needed =
    let none = nobody (chain_of dir.pool m) (set_at dir m) (rw (← empty) (is.stands m l)) in
    let e = rw (absent, none) at needed in
    cc

pub link_has_room : (dir : LinkedView) (link : ℕ) (rest : List ℕ) → IsLinkedDir dir → dir.pool.free ≡ link ∷ rest → free_in (linked_directory dir) ≡ 0 → ⊥
link_has_room dir link rest is some none =
    let free = free_all dir is in
    let more = ap length some in
    omega (arith, free, more, none)

-- a line that holds a link has a list of more nodes than one
pub holds_link : (dir : LinkedView) (m link : ℕ) → IsLinkedDir dir → IsLinkOf dir.pool link m → (m < length dir.sets) × (0 < held_by Linked (set_at dir m))
holds_link dir m link is of =
    let l : m < length dir.sets = let e = is.chains in let below = of.0 in omega (arith, e, below) in
    let held = held_chain (head_at dir m) (chain_of dir.pool m) (set_at dir m) (is.stands m l) in
    let there = of.1.1 in
    let links : length (links_of (chain_of dir.pool m)) ≡ length (chain_of dir.pool m) = length-map (chain_of dir.pool m) (λ e. e.0) in
    (l, omega (arith, held, there, links))

pub line_holds : (dir : LinkedView) (link : ℕ) (answer : Option ℕ) → IsLinkedDir dir → ((m : ℕ) → (answer ≡ Some m) ↔ IsLinkOf dir.pool link m) → IfSome answer (λ m. (m < length dir.sets) × (0 < held_by Linked (set_at dir m)))
line_holds dir link None is line = tt
line_holds dir link (Some m) is line = holds_link dir m link is ((line m).0 refl)

-- where the link is free, some link is
pub unused_is_free : (dir : LinkedView) (link : ℕ) → IsLinkedDir dir → Contains dir.pool.free link → 0 < free_in (linked_directory dir)
unused_is_free dir link is has = let free = free_all dir is in let there = has.1 in omega (arith, free, there)

-- the line in whose chain a link stands is found among the chains
module _ (link : ℕ) where
  abbrev HasLine : List Chain → Option ℕ → Type 0
  HasLine chains r = MatchOption r ((m : ℕ) → m < length chains → times_in link (links_of (slice_index_or chains m [])) ≡ 0) (λ m. (m < length chains) × (0 < times_in link (links_of (slice_index_or chains m []))))

  has_line : (chains : List Chain) → HasLine chains (line_among link chains)
  has_line [] = λ m within. absurd (omega arith)
  has_line (chain ∷ chains) = step (times_in link (links_of chain) == 0) refl (line_among link chains) (has_line chains)
    where
      first : (e : (times_in link (links_of chain) == 0) ≡ true) (rest : (m : ℕ) → m < length chains → times_in link (links_of (slice_index_or chains m [])) ≡ 0) (m : ℕ) → m < suc (length chains) → times_in link (links_of (slice_index_or (chain ∷ chains) m [])) ≡ 0
      first e rest zero within = grind (arith, nat_tests)
      first e rest (suc m) within = rest m (omega arith)

      step : (b : Bool) → (times_in link (links_of chain) == 0) ≡ b → (r : Option ℕ) → HasLine chains r → HasLine (chain ∷ chains) (cond b (option_map suc r) (Some 0))
      step true e None rest = first e rest
      step true e (Some k) there = (let l = there.0 in omega arith, there.1)
      step false e r there = (omega arith, grind (arith, nat_tests))

pub line_is : (pool : Pool) (link : ℕ) (answer : Option ℕ) → ((m : ℕ) → (answer ≡ Some m) ↔ IsLinkOf pool link m) → answer ≡ line_among link pool.chains
line_is pool link answer line = by (line_among link pool.chains) (has_line link pool.chains) answer line
  where
    by : (found : Option ℕ) → HasLine link pool.chains found → (answer : Option ℕ) → ((m : ℕ) → (answer ≡ Some m) ↔ IsLinkOf pool link m) → answer ≡ found
    by (Some m) there answer line = (line m).1 (there.0, times_contains link (links_of (chain_of pool m)) there.1)
    by None none None line = refl
    by None none (Some k) line =
        let of = (line k).0 refl in
        let some = contains_times link (links_of (chain_of pool k)) of.1 in
        let zero_times = none k of.0 in
        absurd (omega (arith, some, zero_times))
