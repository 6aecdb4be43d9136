use Rattle.std.proofs.Common.{◌*◌, ◌≤◌}
use Rattle.std.specs.List.{flat_map, range_with_len}
use Rattle.op_model.specs.Run.Schedules.{both_lanes}
use Rattle.time_view.specs.States.{lane_lines}
use Rattle.time_view.specs.Puts.{ArePut}
use Rattle.time_view.proofs.lanes.put_from.Given as goal

abbrev pub invariant-loop-dst : goal.invariant-loop-dst
invariant-loop-dst g l =
    let m = g.M.Reported.meaning l.m in
    record {
      put : ArePut l.fn.out.items l.out.items l.count (flat_map (lane_lines m.past.state) (flat_map (both_lanes l.src) (range_with_len 0 l.dst)));
      few : l.count ≤ 8589934592 * l.dst;
    }
