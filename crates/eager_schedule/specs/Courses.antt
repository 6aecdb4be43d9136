-- A course of the serial schedule: a list of events, each the next one at its place, and how the schedule ends.
use Rattle.std.specs.Prelude.{◌≡◌, ◌≤◌, ℕ, List, [], ◌∷◌, length, Some, Ok}
use Rattle.op_model.specs.declared.events.Event.{Event}
use Rattle.op_model.specs.Run.Rest.{IsAtRest}
use Rattle.op_model.specs.Run.Schedules.{serial_next}
use Rattle.op_model.specs.Shares.{Trace, Unlinked, program}
use Rattle.schedule_laws.specs.Ends.{AreAllDone}
use Rattle.eager_model.specs.Laws.{IsSerial}
use Rattle.eager_model.specs.Runs.{Past, past_after}
use Rattle.eager_model.specs.Step.{AgedDone, effect}

-- the events lead from one moment to another, and each is the schedule's next one at its place
abbrev pub IsCourse : Trace → Past → List Event → Past → Type 0
IsCourse trace past [] end = past ≡ end
IsCourse trace past (event ∷ events) end =
    (serial_next Unlinked trace.sizes (program trace) trace.ops past.state ≡ Some event) × (done : AgedDone) × (effect trace.sizes (program trace) past.state past.ages event ≡ Ok done) × IsCourse trace (past_after trace.sizes past done) events end

-- The serial schedule ends: within this many events, at rest, with every program done
pub record SerialEnd (trace : Trace) (most : ℕ) : Type 0 where
  pub events : List Event
  pub past : Past
  pub serial : IsSerial trace events past
  pub rests : IsAtRest past.state
  pub done : AreAllDone trace past.state
  pub within : length events ≤ most
