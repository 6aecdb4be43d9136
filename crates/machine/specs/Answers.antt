-- Why an event is refused.
use Rattle.std.specs.Prelude.{List}
use Rattle.line_map.specs.Sizes.{Sizes}
use Rattle.op_model.specs.declared.events.Event.{Event}
use Rattle.op_model.specs.Shares.{Lanes}
use Rattle.machine_face.specs.declared.refusal.ApplyError.{ApplyError}
use Rattle.machine_face.specs.declared.refusal.ApplyError.TheVariants.{NotEnabled, Memory}
use Rattle.machine.specs.Kept.{charge_in}
use Rattle.machine.specs.Faces.{Face}
use Rattle.machine.specs.Acts.{IsRefusedIn}

-- a refusal is for the first cause of the event in this state. Want of memory says nothing of it
abbrev pub IsCauseIn : Sizes → List Face → Lanes → Event → ApplyError → Type 0
IsCauseIn sizes faces lane event (NotEnabled cause) = IsRefusedIn (charge_in faces) sizes faces lane event cause
IsCauseIn sizes faces lane event Memory = Unit {0}
