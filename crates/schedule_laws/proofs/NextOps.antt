-- From rest the finishing schedule completes the next operation of the least node that has one left.
use Rattle.std.proofs.Common.{◌≡◌, List, ◌∙◌, Some}
use Rattle.op_model.specs.declared.events.Event.{Event}
use Rattle.op_model.specs.declared.operations.Op.{Op}
use Rattle.op_model.specs.Run.Rest.{IsAtRest}
use Rattle.op_model.specs.Run.Runs.{Past, run}
use Rattle.op_model.specs.Run.Schedules.{all_nodes, finishing_next, first_left}
use Rattle.op_model.specs.Shares.{Charge, Trace, program}
use Rattle.node_range.specs.Range.{IsOfMachine}
use Rattle.schedule_laws.specs.Courses.{IsCompleted}
use Rattle.schedule_laws.proofs.Completing.{Completes}
use Rattle.schedule_laws.proofs.Lefts.{left-same, left-some}

pub operation : (charge : Charge) (trace : Trace) → IsOfMachine trace → Completes charge trace → (before : List Event) (past : Past) (op : Op) → run charge trace before ≡ Some past → IsAtRest past.state →
    first_left (program trace) past.state (all_nodes trace.sizes) ≡ Some op → IsCompleted (finishing_next charge trace.sizes (program trace)) charge trace.sizes (program trace) past op
operation charge trace all completes before past op ran rests first =
    let is = left-some trace all past.state (all_nodes trace.sizes) op first in
    completes (λ state. first_left (program trace) state (all_nodes trace.sizes)) before past op ran rests is.0 is.1
    (λ state same. left-same (program trace) past.state state (all_nodes trace.sizes) same ∙ first)
