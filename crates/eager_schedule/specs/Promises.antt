-- What the eager core promises of the state that a run of a trace has come to.
use Rattle.std.specs.Prelude.{◌≡◌, ◌≤◌, ◌<◌, ◌+◌, ◌*◌, ℕ, length, Option, Some, Ok}
use Rattle.op_model.specs.declared.events.Class.{Class}
use Rattle.op_model.specs.declared.events.Event.TheVariants.{Take}
use Rattle.op_model.specs.declared.operations.Op.{Op}
use Rattle.op_model.specs.Events.Step.{after}
use Rattle.op_model.specs.Run.Bounds.{lane_bound}
use Rattle.op_model.specs.Run.Rest.{IsAtRest}
use Rattle.op_model.specs.Run.Schedules.{current}
use Rattle.op_model.specs.Run.Weight.{weight}
use Rattle.op_model.specs.Shares.{Trace, program}
use Rattle.eager_model.specs.Laws.{CompletesWithin, IsLineHistory}
use Rattle.eager_model.specs.Runs.{Past}
use Rattle.eager_model.specs.Step.{AgedDone, effect, without_ages}

-- Every line keeps one history, lanes hold no more than they may, every Take lowers the weight, and from rest the serial schedule completes the operation that it
-- has come to within 2N + 8 events
pub record KeepsPromise (trace : Trace) (past : Past) : Type 0 where
  pub histories : (line : ℕ) → IsLineHistory trace past line
  pub bounded : (src dst : ℕ) (class : Class) → length (past.state.lane src dst class) ≤ lane_bound trace.sizes class
  pub lighter : (src dst : ℕ) (class : Class) (victim : Option ℕ) (done : AgedDone) →
      effect trace.sizes (program trace) past.state past.ages (Take src dst class victim) ≡ Ok done → weight trace.sizes (after past.state (without_ages done)) < weight trace.sizes past.state
  pub completes : (op : Op) → IsAtRest past.state → current trace.ops past.state ≡ Some op → CompletesWithin trace (2 * trace.sizes.nodes + 8) past op
