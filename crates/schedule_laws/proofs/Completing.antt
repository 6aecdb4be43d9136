-- What is known of one operation: from rest its course completes it, whatever chooses it, as long as the choice looks at places alone.
use Rattle.std.proofs.Common.{◌≡◌, ℕ, ◌<◌, List, slice_get, Option, Some}
use Rattle.op_model.specs.declared.events.Event.{Event}
use Rattle.op_model.specs.declared.operations.Op.{Op}
use Rattle.op_model.specs.Run.Rest.{IsAtRest}
use Rattle.op_model.specs.Run.Runs.{Past, run}
use Rattle.op_model.specs.Shares.{Charge, State, Trace, program}
use Rattle.schedule_laws.specs.Courses.{IsCompleted, next_by}

abbrev pub Completes : Charge → Trace → Type 0
Completes charge trace =
    (chosen : State → Option Op) (before : List Event) (past : Past) (op : Op) → run charge trace before ≡ Some past → IsAtRest past.state → op.node < trace.sizes.nodes →
    slice_get (program trace op.node) (past.state.share op.node).place ≡ Some op → ((state : State) → ((n : ℕ) → (state.share n).place ≡ (past.state.share n).place) → chosen state ≡ Some op) →
    IsCompleted (next_by chosen charge trace.sizes (program trace)) charge trace.sizes (program trace) past op
