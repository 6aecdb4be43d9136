-- One queue changes, and with it one lane, which stays marked where it still holds a message.
use Rattle.eager_machine.proofs.Marked.{marked-dropped}
use Rattle.eager_machine.proofs.Queues.{lane-dropped}
use Rattle.eager_machine.proofs.lanes.AgedLanes.drop_front.Goals as goal

pub invariant_of-self : goal.invariant_of-self
invariant_of-self c =
    let f = c.self.inside in
    let r = rw (← c.self.view_is) at c.requires in
    marked-dropped (record { sizes = f.cfg; lists = f.queues.items }) f.busy c.self.invariant c.args.src c.args.dst c.args.class r.from r.to c.lane_number-number.result c.lane_number-number.ensures.value c.index_mut-queue.result.now c.drop_front.new.self
    c.index_mut-queue.ensures.value c.drop_front.ensures c.is_empty-is_left.result c.is_empty-is_left.ensures c.put.new.self c.put.ensures

pub returns-clause-lane : goal.returns-clause-lane
returns-clause-lane c =
    let f = c.self.inside in
    let r = rw (← c.self.view_is) at c.requires in
    rw (← c.self.view_is) (lane-dropped (record { sizes = f.cfg; lists = f.queues.items }) c.self.invariant.count c.args.src c.args.dst c.args.class r.from r.to c.lane_number-number.result c.lane_number-number.ensures.value c.index_mut-queue.result.now c.drop_front.new.self
    c.index_mut-queue.ensures.value c.drop_front.ensures)
