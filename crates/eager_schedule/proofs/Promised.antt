-- What the eager core promises, from the laws of its lines, its lanes, its weight and its serial schedule.
use Rattle.std.proofs.Common.{◌≡◌, List, Some}
use Rattle.line_map.specs.Sizes.{AreSizes}
use Rattle.op_model.specs.declared.events.Event.{Event}
use Rattle.op_model.specs.Shares.{Trace}
use Rattle.node_range.specs.Range.{IsOfMachine}
use Rattle.schedule_laws.specs.Ends.{IsInOrder}
use Rattle.schedule_laws.proofs.Public.{IsUsual, usual}
use Rattle.eager_model.specs.Runs.{Past, run}
use Rattle.eager_history.proofs.Public.{one-line-history, sound-run}
use Rattle.eager_rest.proofs.Public.{falling_take}
use Rattle.eager_schedule.specs.Promises.{KeepsPromise}
use Rattle.eager_schedule.proofs.Lengths.{bounded_lanes}
use Rattle.eager_schedule.proofs.Operations.{each_operation}

pub keeps_promise : (trace : Trace) (events : List Event) (past : Past) → AreSizes trace.sizes → IsOfMachine trace → IsInOrder trace → run trace events ≡ Some past → KeepsPromise trace past
keeps_promise trace events past are all ordered ran =
    let positive = (usual trace are all).words in
    record {
      histories = one-line-history trace past (sound-run trace events past positive ran);
      bounded = λ src dst class. bounded_lanes trace events past src dst class positive ran;
      lighter = λ src dst class victim done does. falling_take trace events past src dst class victim done all ran does;
      completes = λ op rests comes. each_operation trace events past op are all ordered ran rests comes;
    }
