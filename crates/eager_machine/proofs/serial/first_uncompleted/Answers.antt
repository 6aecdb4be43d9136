-- The operation at the place is the first that isn't completed, or it is completed too.
use Rattle.schedule.proofs.Public.{read-current, read-end, read-more}
use Rattle.eager_machine.proofs.serial.first_uncompleted.Goals as goal

pub returns-then-done_count-op-clause-current : goal.returns-then-done_count-op-clause-current
returns-then-done_count-op-clause-current c = λ past ran.
    read-current c.args.order.now past.state c.loop-at.at _ c.done_count.result c.loop-at-test.true (c.loop-at.invariant past ran) (c.done_count.ensures past ran) c.if-done_count-op.true

pub loop-at-preserved : goal.loop-at-preserved
loop-at-preserved c = λ past ran.
    read-more c.args.order.now past.state c.loop-at.at _ c.done_count.result c.loop-at-test.true (c.loop-at.invariant past ran) (c.done_count.ensures past ran) c.if-done_count-op.false

pub returns-clause-current : goal.returns-clause-current
returns-clause-current c = λ past ran. read-end c.args.order.now past.state c.loop-at.at c.loop-at-test.false (c.loop-at.invariant past ran)
