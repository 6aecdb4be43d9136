-- Whether the next event was made.
use Rattle.std.proofs.Common.{◌≡◌, Bool, true, false, Option, Some, None}
use Rattle.op_model.specs.declared.events.Event.{Event}
use Rattle.op_model.specs.Run.Machines.{MachineRun, IsApplied}
use Rattle.schedule.specs.Made.{IsAdvanced}

pub was-made : (next : Option Event) (old : MachineRun) (made : Bool) (new : MachineRun) → made ≡ true → IsAdvanced next old made new → (event : Event) × (next ≡ Some event) × IsApplied old event new
was-made next old true new is its = its
was-made next old false new is its = absurd (let n : false ≡ true = is in cc)

pub none-made : (next : Option Event) (old : MachineRun) (made : Bool) (new : MachineRun) → made ≡ false → IsAdvanced next old made new → (next ≡ None) × (new ≡ old)
none-made next old true new is its = absurd (let n : true ≡ false = is in cc)
none-made next old false new is its = its
