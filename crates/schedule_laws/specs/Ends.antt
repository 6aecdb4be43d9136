-- How the schedules end: with every operation done, at rest, within this many events.
use Rattle.std.specs.Prelude.{◌≡◌, ◌≤◌, ℕ, List, length, take, count_by, slice_get, ◌==◌, Some}
use Rattle.op_model.specs.declared.operations.Op.{Op}
use Rattle.op_model.specs.declared.events.Event.{Event}
use Rattle.op_model.specs.Shares.{Charge, Trace, State, program}
use Rattle.op_model.specs.Run.Runs.{Past}
use Rattle.op_model.specs.Run.Rest.{IsAtRest}
use Rattle.op_model.specs.Run.History.{AreEntriesOf, history}
use Rattle.op_model.specs.Run.Schedules.{IsFinishing, IsSerial}

-- the index of each operation is its place in its node's program: how many operations of the node stand before it
abbrev pub IsInOrder : Trace → Type 0
IsInOrder trace = (i : ℕ) (op : Op) → slice_get trace.ops i ≡ Some op → op.index ≡ count_by (λ (other : Op). other.node == op.node) (take i trace.ops)

-- each node stands at the end of its program
abbrev pub AreAllDone : Trace → State → Type 0
AreAllDone trace state = (node : ℕ) → (state.share node).place ≡ length (program trace node)

-- The finishing schedule from a state of a run on ends: within this many events, at rest, with every program done
pub record FinishingRun (charge : Charge) (trace : Trace) (past : Past) (most : ℕ) : Type 0 where
  pub events : List Event
  pub end : Past
  pub finishing : IsFinishing charge trace.sizes (program trace) past events end
  pub rests : IsAtRest end.state
  pub done : AreAllDone trace end.state
  pub within : length events ≤ most

-- The serial schedule ends: within this many events, at rest, with every operation completed, in the order of the trace
pub record SerialRun (charge : Charge) (trace : Trace) (most : ℕ) : Type 0 where
  pub events : List Event
  pub past : Past
  pub serial : IsSerial charge trace events past
  pub rests : IsAtRest past.state
  pub done : AreAllDone trace past.state
  pub in_order : AreEntriesOf trace.ops (history past)
  pub within : length events ≤ most
