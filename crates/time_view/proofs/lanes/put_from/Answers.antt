use Rattle.std.proofs.Common.{arith}
use Rattle.op_model.specs.Run.Schedules.{both_lanes}
use Rattle.time_view.specs.States.{lane_lines}
use Rattle.time_view.proofs.Putting.{lanes_put}
use Rattle.time_view.proofs.lanes.put_from.Goals as goal

pub loop-dst-preserved : goal.loop-dst-preserved
loop-dst-preserved g c =
    let m = g.M.Reported.meaning c.args.m.now in
    record {
      put = lanes_put (lane_lines m.past.state) (both_lanes c.args.src) c.args.out.now.items c.loop-dst.out.items c.put_both.new.out.items c.loop-dst.count c.in_ok-count.field-0 c.loop-dst.dst c.loop-dst.invariant.put c.in_ok-count.ensures.put;
      few = omega (arith, c.loop-dst.invariant.few, c.in_ok-count.ensures.few);
    }
