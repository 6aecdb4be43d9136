-- What tests say that hold or fail, and what a wait is that passes one.
use Rattle.std.proofs.Common.{◌≡◌, ℕ, ◌<◌, Bool, true, false, ◌==◌, ◌&&◌, not, refl, arith, sym, ◌∙◌}
use Rattle.std.proofs.lemmas.Bool.{not-true, not-false}
use Rattle.std.proofs.lemmas.Bool.Decides.{nat_tests}
use Rattle.op_model.specs.declared.state.Grantee.{Grantee}
use Rattle.op_model.specs.declared.state.Wait.{Wait}
use Rattle.op_model.specs.declared.state.Wait.TheVariants.{Idle, Invalidate, ForwardGet, ForwardGetX}
use Rattle.op_model.specs.Lines.{Copy, Absent, is_idle, is_empty}
use Rattle.op_model.specs.Tables.Remote.{is_invalidate, gets_elsewhere, getxs_elsewhere}
use Rattle.op_model.proofs.Public.{empty-copy}

pub all4 : (a b c d : Bool) → (a && b && c && d) ≡ true → (a ≡ true) × (b ≡ true) × (c ≡ true) × (d ≡ true)
all4 a b c d e = (grind arith, grind arith, grind arith, grind arith)

pub none-between : (a b : Bool) → (a && false && b) ≡ false
none-between a b = grind arith

pub above-none : (n : ℕ) → (n == 0) ≡ false → 0 < n
above-none n e = grind (arith, nat_tests)

-- a line that isn't local isn't cached by its home
pub away-empty : (local : Bool) (copy : Copy) → local ≡ not (is_empty copy) → local ≡ false → copy ≡ Absent
away-empty local copy e f = empty-copy copy (not-false (is_empty copy) (sym e ∙ f))

pub idle-is : (wait : Wait) → not (is_idle wait) ≡ false → wait ≡ Idle
idle-is Idle e = refl
idle-is (Invalidate g) e = absurd (cc)
idle-is (ForwardGet r) e = absurd (cc)
idle-is (ForwardGetX r) e = absurd (cc)

pub invalidates : (wait : Wait) → is_invalidate wait ≡ true → (g : Grantee) × (wait ≡ Invalidate g)
invalidates Idle e = absurd (cc)
invalidates (Invalidate g) e = (g, refl)
invalidates (ForwardGet r) e = absurd (cc)
invalidates (ForwardGetX r) e = absurd (cc)

pub gets : (home : ℕ) (wait : Wait) → gets_elsewhere home wait ≡ true → (r : ℕ) × (wait ≡ ForwardGet r) × ((r == home) ≡ false)
gets home Idle e = absurd (cc)
gets home (Invalidate g) e = absurd (cc)
gets home (ForwardGet r) e = (r, refl, not-true (r == home) e)
gets home (ForwardGetX r) e = absurd (cc)

pub getxs : (home : ℕ) (wait : Wait) → getxs_elsewhere home wait ≡ true → (r : ℕ) × (wait ≡ ForwardGetX r) × ((r == home) ≡ false)
getxs home Idle e = absurd (cc)
getxs home (Invalidate g) e = absurd (cc)
getxs home (ForwardGet r) e = absurd (cc)
getxs home (ForwardGetX r) e = (r, refl, not-true (r == home) e)
