-- What is read of a node by its number, where there may be no such node.
use Rattle.std.proofs.Common.{◌≡◌, ℕ, zero, suc, ◌≤◌, ◌<◌, false, List, [], ◌∷◌, length, map, ap, arith, refl, sym, ◌∙◌, None, Some}
use Rattle.std.specs.Prelude.{nat_lt, slice_get}
use Rattle.std.proofs.lemmas.Bool.Decides.{nat_tests}
use Rattle.line_map.specs.Sizes.{Sizes}
use Rattle.op_model.specs.Operations.{Words}
use Rattle.op_model.specs.Shares.{Lanes, Share, want_on}
use Rattle.op_model.specs.declared.operations.Entry.{Entry}
use Rattle.op_model.specs.Run.History.{is_completed}
use Rattle.op_model.specs.Run.Runs.{entry_for, start_share}
use Rattle.machine.specs.Faces.{Face}
use Rattle.machine.specs.Kept.{share_in, share_or, state_of}
use Rattle.machine.proofs.Faces.{share_in-at}

pub slice_get-past : {A : Type 0} (xs : List A) (i : ℕ) → length xs ≤ i → slice_get xs i ≡ None
slice_get-past [] i past = refl
slice_get-past (y ∷ xs) zero past = absurd (omega (arith, past))
slice_get-past (y ∷ xs) (suc i) past = slice_get-past xs i (omega (arith, past))

pub share_in-past : (sizes : Sizes) (faces : List Face) (node : ℕ) → length faces ≤ node → share_in sizes faces node ≡ start_share sizes node
share_in-past sizes faces node past = ap (share_or sizes node) (slice_get-past faces node past)

-- a node that there isn't has begun nothing, and has nothing done
pub unread-past : (sizes : Sizes) (faces : List Face) (node line : ℕ) (body : Words) → length faces ≤ node →
    [] ≡ entry_for node (share_in sizes faces node).place body (want_on sizes (share_in sizes faces node).want line)
unread-past sizes faces node line body past = sym (ap (λ (s : Share). entry_for node s.place body (want_on sizes s.want line)) (share_in-past sizes faces node past))

none-below : (n : ℕ) → false ≡ nat_lt n 0
none-below n = grind (arith, nat_tests)

pub undone-past : (sizes : Sizes) (faces : List Face) (lane : Lanes) (entry : Entry) → length faces ≤ entry.node → false ≡ is_completed (state_of sizes faces lane) entry
undone-past sizes faces lane entry past = none-below entry.index ∙ ap (λ (s : Share). nat_lt entry.index s.place) (sym (share_in-past sizes faces entry.node past))

-- what is read of a node that there is
pub read-at : (sizes : Sizes) (faces : List Face) (node line : ℕ) (body : Words) (face : Face) → slice_get faces node ≡ Some face →
    entry_for node face.share.place body (want_on sizes face.share.want line) ≡ entry_for node (share_in sizes faces node).place body (want_on sizes (share_in sizes faces node).want line)
read-at sizes faces node line body face is = ap (λ (s : Share). entry_for node s.place body (want_on sizes s.want line)) (sym (share_in-at sizes faces node face is))

pub done-at : (sizes : Sizes) (faces : List Face) (lane : Lanes) (entry : Entry) (face : Face) → slice_get faces entry.node ≡ Some face →
    nat_lt entry.index face.share.place ≡ is_completed (state_of sizes faces lane) entry
done-at sizes faces lane entry face is = ap (λ (s : Share). nat_lt entry.index s.place) (sym (share_in-at sizes faces entry.node face is))
