-- One queue changes, and with it one lane, which is marked. Where there was no memory no lane has changed.
use Rattle.op_model.specs.Messages.{msg_class}
use Rattle.eager_machine.proofs.Marked.{marked-kept, marked-pushed}
use Rattle.eager_machine.proofs.Queues.{lane-kept, lane-pushed}
use Rattle.eager_machine.proofs.lanes.AgedLanes.push.Goals as goal

pub invariant_of-self : goal.invariant_of-self
invariant_of-self c =
    let f = c.self.inside in
    let r = rw (← c.self.view_is) at c.requires in
    let number = rw c.class-class.ensures at c.lane_number-number.ensures.value in
    marked-kept (record { sizes = f.cfg; lists = f.queues.items }) f.busy c.self.invariant c.args.src c.args.dst (msg_class c.args.aged.msg) r.from r.to c.lane_number-number.result number c.index_mut-queue.result.now c.push.new.self
    c.index_mut-queue.ensures.value c.in_err-push.ensures.err

pub invariant_of-self-2 : goal.invariant_of-self-2
invariant_of-self-2 c =
    let f = c.self.inside in
    let r = rw (← c.self.view_is) at c.requires in
    let number = rw c.class-class.ensures at c.lane_number-number.ensures.value in
    marked-pushed (record { sizes = f.cfg; lists = f.queues.items }) f.busy c.self.invariant c.args.src c.args.dst (msg_class c.args.aged.msg) r.from r.to c.lane_number-number.result number c.index_mut-queue.result.now c.push.new.self
    c.index_mut-queue.ensures.value c.args.aged c.in_ok-push.ensures.ok c.mark.new.self (rw c.class-class.ensures at c.mark.ensures)

pub returns-clause-ok : goal.returns-clause-ok
returns-clause-ok c =
    let f = c.self.inside in
    let r = rw (← c.self.view_is) at c.requires in
    let number = rw c.class-class.ensures at c.lane_number-number.ensures.value in
    rw (← c.self.view_is) (lane-pushed (record { sizes = f.cfg; lists = f.queues.items }) c.self.invariant.count c.args.src c.args.dst (msg_class c.args.aged.msg) r.from r.to c.lane_number-number.result number c.index_mut-queue.result.now c.push.new.self c.args.aged
    c.index_mut-queue.ensures.value c.in_ok-push.ensures.ok)
