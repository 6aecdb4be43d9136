-- Why an event is refused.
use Rattle.std.specs.Prelude.{List}
use Rattle.line_map.specs.Sizes.{Sizes}
use Rattle.op_model.specs.declared.events.Event.{Event}
use Rattle.machine_face.specs.declared.refusal.ApplyError.{ApplyError}
use Rattle.machine_face.specs.declared.refusal.ApplyError.TheVariants.{NotEnabled, Memory}
use Rattle.eager_home.specs.Views.{EagerView}
use Rattle.eager_machine.specs.Acts.{IsRefusedIn}
use Rattle.eager_machine.specs.Lanes.{UnderWay}

-- a refusal is for the first cause of the event in this state. Want of memory says nothing of it
abbrev pub IsCauseIn : Sizes → List EagerView → UnderWay → Event → ApplyError → Type 0
IsCauseIn sizes nodes way event (NotEnabled cause) = IsRefusedIn sizes nodes way event cause
IsCauseIn sizes nodes way event Memory = Unit {0}
