-- Why a machine doesn't make an event.
use Rattle.std.specs.Prelude.{◌≡◌, Err}
use Rattle.op_model.specs.declared.events.Event.{Event}
use Rattle.op_model.specs.Run.Machines.{MachineRun, effect_on}
use Rattle.machine_face.specs.declared.refusal.ApplyError.{ApplyError}
use Rattle.machine_face.specs.declared.refusal.ApplyError.TheVariants.{NotEnabled, Memory}

-- the event isn't enabled, with its first cause, or memory is wanting
abbrev pub IsRefused : MachineRun → Event → ApplyError → Type 0
IsRefused m event (NotEnabled cause) = effect_on m event ≡ Err cause
IsRefused m event Memory = Unit {0}
