-- Tests on nodes, and small facts on sets of nodes.
-- Each test of two numbers is decided; a set that lists one node is known by its count.
use Rattle.std.proofs.Common.{◌≡◌, ℕ, Bool, true, false, cond, refl, arith, ◌∙◌}
use Rattle.op_model.specs.Nodes.{Nodes, listed, unlist, count, none, only, listings, none_of_count, count-unlist, listed-none, in_order-only}
use Rattle.op_model.specs.Lines.{Header, owner}

pub if-either : {A : Type 0} (P : A → Type 0) (b : Bool) (x y : A) → (b ≡ true → P x) → (b ≡ false → P y) → P (cond b x y)
if-either P true x y h k = h refl
if-either P false x y h k = k refl

-- a set that lists one node alone
pub alone : (s : Nodes) (p : ℕ) → listed s p ≡ true → count s ≡ 1 → (q : ℕ) → listed (unlist s p) q ≡ false
alone s p has one q =
    let none_left : unlist s p ≡ none = none_of_count _ (count-unlist s p ∙ simp (has, one)) in
    rw (none_left, listed-none)

pub not-none : (s : Nodes) (p : ℕ) → listed s p ≡ true → count s ≡ 0 → ⊥
not-none s p has zero = let e = none_of_count s zero in grind (arith, listings)

pub owner-only : (header : Header) (o : ℕ) → header.list ≡ only o → owner header ≡ o
owner-only header o e = rw (e, in_order-only)
