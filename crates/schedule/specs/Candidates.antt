-- The candidates of a random step, on a machine.
use Rattle.std.specs.Prelude.{List, filter, map, ℕ, Some}
use Rattle.op_model.specs.declared.events.Class.{Class}
use Rattle.op_model.specs.declared.events.Event.{Event}
use Rattle.op_model.specs.declared.events.Event.TheVariants.{Take}
use Rattle.op_model.specs.Run.Seeded.{candidates, is_enabled}
use Rattle.op_model.specs.Run.Machines.{MachineRun}

-- those of these events that are enabled
abbrev pub enabled_of : MachineRun → List Event → List Event
enabled_of m events = filter (is_enabled m.charge m.sizes m.programs m.past.state) events

abbrev pub candidates_on : MachineRun → List Event
candidates_on m = candidates m.charge m.sizes m.programs m.past.state

-- the Takes of a lane, one for each of these lines
abbrev pub takes_with : ℕ → ℕ → Class → List ℕ → List Event
takes_with src dst class lines = map (λ line. Take src dst class (Some line)) lines
