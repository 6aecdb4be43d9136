-- The queue at the lane's number is the lane.
use Rattle.eager_machine.proofs.Queues.{lane-read}
use Rattle.eager_machine.proofs.lanes.AgedLanes.queue.Goals as goal

pub returns : goal.returns
returns c =
    let f = c.self.inside in
    let r = rw (← c.self.view_is) at c.requires in
    rw (← c.self.view_is) (lane-read (record { sizes = f.cfg; lists = f.queues.items }) c.self.invariant.count c.args.src c.args.dst c.args.class r.from r.to c.lane_number.result c.lane_number.ensures.value c.index.result.now c.index.result.now c.index.ensures)
