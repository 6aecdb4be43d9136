-- The nodes as a list: one of them changed, and what it does in the state is what it does by itself.
use Rattle.std.proofs.Common.{◌≡◌, ◌≢◌, ℕ, zero, suc, ◌+◌, ◌≤◌, ◌<◌, Bool, true, false, cond, ◌==◌, List, [], ◌∷◌, length, map, set, get_or, refl, ap, arith, sym, subst, ◌∙◌, Some}
use Rattle.std.specs.Prelude.{slice_get, unwrap_or, option_map, sum_by}
use Rattle.std.proofs.lemmas.Option.{slice_get-map, same_Some, get_or_from_slice_get, slice_get_within}
use Rattle.std.proofs.lemmas.Bool.Decides.{nat_tests}
use Rattle.std.proofs.lemmas.List.{length-set}
use Rattle.std.proofs.lemmas.List.Sums.{sum_by-set}
use Rattle.line_map.specs.Sizes.{Sizes}
use Rattle.op_model.specs.Shares.{Charge, Share}
use Rattle.op_model.specs.Events.Node.{Input, local}
use Rattle.machine.specs.Faces.{Face, outcome_at}
use Rattle.op_model.specs.Programs.{programs_of}
use Rattle.machine.specs.Kept.{share_or, share_in, programs_in, charge_in, left_at, left_in, IsNodeAt, AreNodes}

pub slice_get-set_at : {A : Type 0} (xs : List A) (i : ℕ) (old new : A) → slice_get xs i ≡ Some old → slice_get (set xs i new) i ≡ Some new
slice_get-set_at [] i old new is = cc
slice_get-set_at (y ∷ xs) zero old new is = refl
slice_get-set_at (y ∷ xs) (suc i) old new is = slice_get-set_at xs i old new is

pub slice_get-set_other : {A : Type 0} (xs : List A) (i j : ℕ) (new : A) → j ≢ i → slice_get (set xs i new) j ≡ slice_get xs j
slice_get-set_other [] i j new other = refl
slice_get-set_other (y ∷ xs) zero zero new other = absurd (other refl)
slice_get-set_other (y ∷ xs) zero (suc j) new other = refl
slice_get-set_other (y ∷ xs) (suc i) zero new other = refl
slice_get-set_other (y ∷ xs) (suc i) (suc j) new other = slice_get-set_other xs i j new (λ same. other (ap suc same))

-- a write that a function doesn't see
pub map-set_same : {A B : Type 0} (f : A → B) (xs : List A) (i : ℕ) (old new : A) → slice_get xs i ≡ Some old → f new ≡ f old → map f (set xs i new) ≡ map f xs
map-set_same f [] i old new is same = refl
map-set_same f (y ∷ xs) zero old new is same = let e : y ≡ old = cc in ap (λ v. v ∷ map f xs) (same ∙ ap f (sym e))
map-set_same f (y ∷ xs) (suc i) old new is same = ap (λ vs. f y ∷ vs) (map-set_same f xs i old new is same)

-- the element at a place, where there is one
pub slice_get-read : {A : Type 0} (xs : List A) (i : ℕ) (d x : A) → i < length xs → x ≡ get_or xs i d → slice_get xs i ≡ Some x
slice_get-read [] i d x within is = absurd (omega arith)
slice_get-read (y ∷ xs) zero d x within is = ap Some (sym is)
slice_get-read (y ∷ xs) (suc i) d x within is = slice_get-read xs i d x (omega arith) is

pub slice_get-mapped : {A B : Type 0} (f : A → B) (xs : List A) (i : ℕ) (x : A) → slice_get xs i ≡ Some x → slice_get (map f xs) i ≡ Some (f x)
slice_get-mapped f xs i x is = slice_get-map f xs i ∙ ap (option_map f) is

pub share_in-at : (sizes : Sizes) (faces : List Face) (node : ℕ) (face : Face) → slice_get faces node ≡ Some face → share_in sizes faces node ≡ face.share
share_in-at sizes faces node face is = ap (share_or sizes node) is

pub share_in-set : (sizes : Sizes) (faces : List Face) (node : ℕ) (old new : Face) → slice_get faces node ≡ Some old → (q : ℕ) →
    share_in sizes (set faces node new) q ≡ cond (q == node) new.share (share_in sizes faces q)
share_in-set sizes faces node old new is q = go (q == node) refl
  where
    go : (b : Bool) → (q == node) ≡ b → share_in sizes (set faces node new) q ≡ cond b new.share (share_in sizes faces q)
    go true test = let same : q ≡ node = grind (arith, nat_tests) in ap (share_in sizes (set faces node new)) same ∙ ap (share_or sizes node) (slice_get-set_at faces node old new is)
    go false test = let other : q ≢ node = grind (arith, nat_tests) in ap (share_or sizes q) (slice_get-set_other faces node q new other)

pub programs_of-at : (faces : List Face) (node : ℕ) (face : Face) → slice_get faces node ≡ Some face → programs_of (programs_in faces) node ≡ face.program
programs_of-at faces node face is = ap (λ o. unwrap_or o []) (slice_get-mapped (λ (f : Face). f.program) faces node face is)

pub programs_in-set : (faces : List Face) (node : ℕ) (old new : Face) → slice_get faces node ≡ Some old → new.program ≡ old.program → programs_in (set faces node new) ≡ programs_in faces
programs_in-set faces node old new is same = map-set_same (λ (f : Face). f.program) faces node old new is same

pub charge_in-set : (faces : List Face) (node : ℕ) (old new : Face) → slice_get faces node ≡ Some old → new.charge ≡ old.charge → charge_in (set faces node new) ≡ charge_in faces
charge_in-set [] node old new is same = refl
charge_in-set (f ∷ faces) zero old new is same = let e : f ≡ old = cc in same ∙ ap (λ (h : Face). h.charge) (sym e)
charge_in-set (f ∷ faces) (suc node) old new is same = refl

-- what a node does in the state is what it does by itself
pub local-at : (sizes : Sizes) (charge : Charge) (faces : List Face) (node : ℕ) (face : Face) → slice_get faces node ≡ Some face → IsNodeAt sizes charge node face → (input : Input) →
    local charge sizes node (programs_of (programs_in faces) node) (share_in sizes faces node) input ≡ outcome_at face input
local-at sizes charge faces node face is node_is input =
    let a = sym node_is.same_sizes in
    let b = sym node_is.number_is in
    let c = programs_of-at faces node face is in
    let d = share_in-at sizes faces node face is in
    let e = sym node_is.same_charge in
    λ i. local (e i) (a i) (b i) (c i) (d i) input

-- one node with another share
pub nodes-set : (sizes : Sizes) (charge : Charge) (faces : List Face) (node : ℕ) (face : Face) (share : Share) → AreNodes sizes charge faces → slice_get faces node ≡ Some face → share.place ≤ length face.program →
    AreNodes sizes charge (set faces node (record face { share = share }))
nodes-set sizes charge faces node face share nodes there placed = record {
  count = length-set faces node (record face { share = share }) ∙ nodes.count;
  each = λ q f is. go q f (q == node) refl is;
}
  where
    go : (q : ℕ) (f : Face) (b : Bool) → (q == node) ≡ b → slice_get (set faces node (record face { share = share })) q ≡ Some f → IsNodeAt sizes charge q f
    go q f true test is =
        let same : q ≡ node = grind (arith, nat_tests) in
        let its : record face { share = share } ≡ f = same_Some (record face { share = share }) f (sym (ap (slice_get (set faces node (record face { share = share }))) same ∙ slice_get-set_at faces node face (record face { share = share }) there) ∙ is) in
        let old = nodes.each node face there in
        subst (IsNodeAt sizes charge q) its (subst (λ n. IsNodeAt sizes charge n (record face { share = share })) (sym same) (record { same_sizes = old.same_sizes; number_is = old.number_is; same_charge = old.same_charge; program = old.program; placed = placed }))
    go q f false test is =
        let other : q ≢ node = grind (arith, nat_tests) in
        nodes.each q f (sym (slice_get-set_other faces node q (record face { share = share }) other) ∙ is)

sum-set : {A : Type 0} (f : A → ℕ) (xs : List A) (i : ℕ) (old new : A) → slice_get xs i ≡ Some old → sum_by f (set xs i new) + f old ≡ sum_by f xs + f new
sum-set f xs i old new is = ap (λ x. sum_by f (set xs i new) + f x) (sym (get_or_from_slice_get xs i old old is)) ∙ sum_by-set f xs i new old (slice_get_within xs i old is)

-- where the operation of a node is done, one less is left
pub left-set : (faces : List Face) (node : ℕ) (face : Face) (share : Share) (done : Bool) → slice_get faces node ≡ Some face → share.place ≤ length face.program → share.place ≡ cond done (suc face.share.place) face.share.place →
    left_in (set faces node (record face { share = share })) + cond done 1 0 ≡ left_in faces
left-set faces node face share true there placed place = let s = sum-set left_at faces node face (record face { share = share }) there in omega (arith, s, place)
left-set faces node face share false there placed place = let s = sum-set left_at faces node face (record face { share = share }) there in omega (arith, s, place)
