-- What a test that holds, and a step that goes on, say.
use Rattle.std.proofs.Common.{◌≡◌, ℕ, Bool, true, false, cond, refl, Option, Some, None, Result, Ok, Err}
use Rattle.op_model.specs.declared.events.Cause.{Cause}
use Rattle.op_model.specs.Events.Node.{NodeOutcome}
use Rattle.op_model.specs.Parts.Part.{Part, ByLane}
use Rattle.op_model.specs.Parts.OwnStep.{after_outcome, part_of}

pub some_when : {A : Type 0} (v : Bool) (x : Option A) (y : A) → cond v x None ≡ Some y → (v ≡ true) × (x ≡ Some y)
some_when true x y e = (refl, e)
some_when false x y e = absurd (cc)

pub went_on : (p : Part) (taken : ByLane ℕ) (r : Result NodeOutcome Cause) (q : Part) → part_of p taken r ≡ Some q → (out : NodeOutcome) × (r ≡ Ok out) × (after_outcome p taken out ≡ q)
went_on p taken (Err c) q e = absurd (let d : ◌≡◌ {A = Option Part} None (Some q) = e in cc)
went_on p taken (Ok out) q e = (out, refl, cc)
