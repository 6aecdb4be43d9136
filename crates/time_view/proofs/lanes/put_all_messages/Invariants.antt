use Rattle.std.proofs.Common.{◌*◌, ◌≤◌}
use Rattle.std.specs.List.{flat_map, range_with_len}
use Rattle.op_model.specs.Run.Schedules.{all_nodes, both_lanes}
use Rattle.time_view.specs.States.{lane_lines}
use Rattle.time_view.specs.Puts.{ArePut}
use Rattle.time_view.proofs.lanes.put_all_messages.Given as goal

abbrev pub invariant-loop-src : goal.invariant-loop-src
invariant-loop-src g l =
    let m = g.M.Reported.meaning l.m in
    record {
      put : ArePut l.fn.out.items l.out.items l.count (flat_map (lane_lines m.past.state) (flat_map (λ src. flat_map (both_lanes src) (all_nodes m.sizes)) (range_with_len 0 l.src)));
      few : l.count ≤ 549755813888 * l.src;
    }
