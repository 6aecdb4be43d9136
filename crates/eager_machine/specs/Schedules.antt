-- What a machine of the eager core has made of the serial schedule.
use Rattle.std.specs.Prelude.{ℕ, ◌+◌, ◌*◌, ◌≤◌, ◌++◌, List, length, Option}
use Rattle.op_model.specs.declared.events.Event.{Event}
use Rattle.op_model.specs.declared.operations.Op.{Op}
use Rattle.op_model.specs.Programs.{programs_of}
use Rattle.op_model.specs.Run.Rest.{IsAtRest}
use Rattle.op_model.specs.Run.Schedules.{first_busy, lane_or_next}
use Rattle.op_model.specs.Shares.{State, Trace, Unlinked}
use Rattle.schedule_laws.specs.Ends.{AreAllDone}
use Rattle.eager_model.specs.Laws.{IsSerial}
use Rattle.eager_model.specs.Runs.{Past}
use Rattle.eager_machine.specs.Machines.{EagerMachineView}

-- the next event of a schedule that goes on with this operation
abbrev pub next_with : EagerMachineView → State → Option Op → Option Event
next_with view state chosen = lane_or_next Unlinked view.sizes (programs_of view.programs) state chosen (first_busy view.sizes state)

-- the most events of one operation, from rest
abbrev pub most_for_one : Trace → ℕ
most_for_one trace = 2 * trace.sizes.nodes + 8

-- The events are the serial schedule of a trace, and it has ended: at rest, with every operation completed
pub record IsSerialWhole (trace : Trace) (events : List Event) (past : Past) : Type 0 where
  pub serial : IsSerial trace events past
  pub done : AreAllDone trace past.state
  pub rests : IsAtRest past.state
  pub within : length events ≤ most_for_one trace * length trace.ops

-- the events are the first ones of the serial schedule of a trace, and these are left of it
pub record HasBegunSerial (trace : Trace) (events : List Event) : Type 0 where
  pub left : List Event
  pub end : Past
  pub serial : IsSerial trace (events ++ left) end
