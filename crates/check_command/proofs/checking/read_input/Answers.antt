-- The trace is read from the front, and the history from what is left.
use Rattle.std.proofs.lemmas.Result.{err_from_is_err_and}
use Rattle.check_command.proofs.Read.{trace-fault, both-read, history-fault}
use Rattle.check_command.proofs.checking.read_input.Goals as goal

pub returns-in_err-trace-clause-fault : goal.returns-in_err-trace-clause-fault
returns-in_err-trace-clause-fault c =
    let cut = c.cut_trace-cut.result in
    let p = err_from_is_err_and c.from_residual.result c.from_residual.ensures.1 in
    rw (p.1, p.2) (trace-fault c.args.bytes.now cut.trace.now cut.rest.now cut.next c.cut_trace-cut.ensures.cut c.cut_trace-cut.ensures.fault c.in_err-trace.field-0.0 c.in_err-trace.ensures.value)

pub returns-in-Ok-clause-read : goal.returns-in-Ok-clause-read
returns-in-Ok-clause-read c =
    let cut = c.cut_trace-cut.result in
    both-read c.args.bytes.now cut.trace.now cut.rest.now cut.next c.cut_trace-cut.ensures.cut c.cut_trace-cut.ensures.fault c.in_ok-trace.trace c.in_ok-trace.ensures.value c.in-Ok.entries.items
    (rw (c.cfg-machine.ensures.value, c.version.ensures.value) at c.in-Ok.ensures.value)

pub returns-in-Err-clause-fault : goal.returns-in-Err-clause-fault
returns-in-Err-clause-fault c =
    let cut = c.cut_trace-cut.result in
    rw c.fault_of.ensures
    (history-fault c.args.bytes.now cut.trace.now cut.rest.now cut.next c.cut_trace-cut.ensures.cut c.cut_trace-cut.ensures.fault c.in_ok-trace.trace c.in_ok-trace.ensures.value c.in-Err.error
    (rw (c.cfg-machine.ensures.value, c.version.ensures.value) at c.in-Err.ensures.value))
