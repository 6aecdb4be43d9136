-- As many seats as nodes, each with one part of its own, are the seats of all nodes, each once; and a sum over them is one over the nodes.
use Rattle.std.proofs.Common.{◌≡◌, ℕ, ◌+◌, ◌*◌, ◌<◌, ◌≤◌, Bool, true, false, cond, nat_lt, ◌==◌, List, [], ◌∷◌, length, refl, sym, ap, ◌∙◌, subst, arith, ne_eqb, All, sum_by}
use Rattle.std.specs.Prelude.{slice_index}
use Rattle.std.proofs.lemmas.Bool.{eqb-true}
use Rattle.std.proofs.lemmas.List.Elements.{All-nil, All-cons}
use Rattle.std.proofs.lemmas.List.Sums.{sum_by-cons}
use mathlib.Core.Option.{some, some-injective, some-ne-none}
use lib.ListN.{get_elem?}
use Rattle.atomic_table.specs.Table.{Final, Seen}
use Rattle.op_model.specs.Run.Weight.{total}
use Rattle.op_model.specs.Parts.Part.{Part}
use Rattle.op_model.specs.Parts.Journal.{drawn}
use Rattle.op_model.proofs.Public.{total-add, total-alike, total-zero}
use Rattle.lane_table.specs.Setups.{Setup}
use Rattle.lane_table.specs.Rule.{NotIn, Holds, IsKept}
use Rattle.lane_table.specs.Ends.{IsEnded}
use Rattle.lane_table.proofs.Sums.{total_at, each_one}

-- these are parts of different nodes of the machine
abbrev PartsOf : ℕ → (ℕ → Part) → List Part → Type 0
PartsOf nodes parts [] = Unit {0}
PartsOf nodes parts (p ∷ v) = ((p.number < nodes) × (p ≡ parts p.number) × NotIn p.number v) × PartsOf nodes parts v

parts_held : (nodes : ℕ) (parts : ℕ → Part) (owner : ℕ → ℕ) (seat : ℕ) (v : List Part) → Holds nodes parts owner seat v → PartsOf nodes parts v
parts_held nodes parts owner seat [] h = tt
parts_held nodes parts owner seat (p ∷ v) h = ((h.0.0, h.0.1, h.0.3), parts_held nodes parts owner seat v h.1)

-- a sum over the parts of a list
abbrev sums : (Part → ℕ) → List Part → ℕ
sums f [] = 0
sums f (p ∷ v) = f p + sums f v

sums-is : (f : Part → ℕ) (v : List Part) → sum_by f v ≡ sums f v
sums-is f [] = refl
sums-is f (p ∷ v) = sum_by-cons f p v ∙ ap (λ n. f p + n) (sums-is f v)

-- how often a node has its part there
times : ℕ → List Part → ℕ
times n v = sums (λ p. cond (p.number == n) 1 0) v

none_in : (n : ℕ) (v : List Part) → NotIn n v → times n v ≡ 0
unfolding times
none_in n [] h = refl
none_in n (p ∷ v) h = let k = none_in n v h.1 in let e : cond (p.number == n) 1 0 ≡ times n [] = ap (λ b. cond b 1 0) (ne_eqb p.number n h.0) in omega arith

at_most_one : (nodes : ℕ) (parts : ℕ → Part) (v : List Part) (n : ℕ) → PartsOf nodes parts v → times n v ≤ 1
unfolding times
at_most_one nodes parts [] n h = omega arith
at_most_one nodes parts (p ∷ v) n h = here (p.number == n) refl (at_most_one nodes parts v n h.1)
  where
    here : (b : Bool) → (p.number == n) ≡ b → times n v ≤ 1 → cond b 1 0 + times n v ≤ 1
    here true e le = let P : ℕ → Type 0 = λ k. times k v ≡ 0 in let k = subst P (eqb-true p.number n e) (none_in p.number v h.0.2) in omega arith
    here false e le = omega arith

weighed : (b : Bool) (t x : ℕ) → (cond b 1 0 + t) * x ≡ cond b x 0 + t * x
weighed true t x = omega arith
weighed false t x = omega arith

zeros : (n : ℕ) (f : ℕ → ℕ) → total (λ m. 0 * f m) n ≡ 0
zeros n f = total-alike (λ m. 0) (λ m. 0 * f m) n (λ m _. omega arith) ∙ total-zero n

by_number : (nodes : ℕ) (parts : ℕ → Part) (f : ℕ → ℕ) (v : List Part) → PartsOf nodes parts v → sums (λ p. f p.number) v ≡ total (λ n. times n v * f n) nodes
unfolding times
by_number nodes parts f [] h = sym (zeros nodes f)
by_number nodes parts f (p ∷ v) h =
    let k : ℕ = p.number in
    let rest = by_number nodes parts f v h.1 in
    let split = total-alike (λ n. cond (k == n) (f n) 0 + times n v * f n) (λ n. (cond (k == n) 1 0 + times n v) * f n) nodes (λ m _. weighed (k == m) (times m v) (f m)) in
    let add = total-add (λ n. cond (k == n) (f n) 0) (λ n. times n v * f n) nodes in
    let one = total_at nodes k f h.0.0 in
    omega (arith, split)

ones : (v : List Part) → sums (λ p. 1) v ≡ length v
ones [] = refl
ones (p ∷ v) = let h = ones v in omega arith

each_once : (nodes : ℕ) (parts : ℕ → Part) (v : List Part) → PartsOf nodes parts v → length v ≡ nodes → (n : ℕ) → n < nodes → times n v ≡ 1
each_once nodes parts v h len n lt =
    let e = by_number nodes parts (λ n. 1) v h in
    let s = total-alike (λ n. times n v) (λ n. times n v * 1) nodes (λ m _. omega arith) in
    let o = ones v in
    each_one nodes (λ n. times n v) (λ m. at_most_one nodes parts v m h) (sym s ∙ (sym e ∙ (o ∙ len))) n lt

-- a sum over all seats is the sum over all nodes
same_sum : (nodes : ℕ) (parts : ℕ → Part) (f : ℕ → ℕ) (v : List Part) → PartsOf nodes parts v → length v ≡ nodes → sums (λ p. f p.number) v ≡ total f nodes
same_sum nodes parts f v h len = by_number nodes parts f v h ∙ total-alike f (λ n. times n v * f n) nodes (λ m lt. ap (λ t. t * f m) (each_once nodes parts v h len m lt) ∙ omega arith)

tickets_of : (nodes : ℕ) (parts : ℕ → Part) (t : ℕ) (v : List Part) → PartsOf nodes parts v → sums (λ p. drawn t p.log) v ≡ sums (λ p. drawn t (parts p.number).log) v
tickets_of nodes parts t [] h = refl
tickets_of nodes parts t (p ∷ v) h = λ k. drawn t (h.0.1 k).log + tickets_of nodes parts t v h.1 k

all_parts : (nodes : ℕ) (parts : ℕ → Part) (v : List Part) → PartsOf nodes parts v → All (λ p. (p.number < nodes) × (p ≡ parts p.number)) v
all_parts nodes parts [] h = All-nil (λ p. (p.number < nodes) × (p ≡ parts p.number))
all_parts nodes parts (p ∷ v) h = All-cons (λ p. (p.number < nodes) × (p ≡ parts p.number)) p v (h.0.0, h.0.1) (all_parts nodes parts v h.1)

first_word : (ws : List ℕ) (t : ℕ) → get_elem? ws 0 ≡ some t → t ≡ slice_index ws 0
first_word [] t e = absurd (some-ne-none t (sym e))
first_word (x ∷ ws) t e = sym (some-injective x t e)

-- what the seat that has all parts tells at the end
pub ended : (setup : Setup) (v : List Part) (words : List ℕ) (xs : List (Unit {0})) (id t : ℕ) → length v ≡ setup.sizes.nodes
    → Final {S = Unit {0}} {V = List Part} (Seen (IsKept setup) id v) words xs → get_elem? words 0 ≡ some t → IsEnded setup v t
unfolding times
ended setup v words xs id t len f at =
    let s = f.0 in
    let h : IsKept setup s = f.1.0 in
    let z : ℕ = setup.sizes.nodes in
    let held = parts_held z h.parts h.owner id v (h.seats.held id v f.1.1) in
    let count = first_word words t at ∙ (sym (ap (λ (ws : List ℕ). slice_index ws 0) f.2) ∙ h.table.ticket) in
    record {
      words = s.words;
      each = h.parts;
      table = h.table;
      count = count;
      nodes = all_parts z h.parts v held;
      every = λ n lt. sums-is (λ p. cond (p.number == n) 1 0) v ∙ each_once z h.parts v held len n lt;
      once = λ k. sums-is (λ p. drawn k p.log) v ∙ (tickets_of z h.parts k v held
          ∙ (same_sum z h.parts (λ n. drawn k (h.parts n).log) v held len ∙ (h.table.numbered.once k ∙ ap (λ m. cond (nat_lt k m) 1 0) (sym count))));
    }
