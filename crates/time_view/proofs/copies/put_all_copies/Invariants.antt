use Rattle.std.proofs.Common.{◌*◌, ◌≤◌}
use Rattle.std.specs.List.{flat_map, range_with_len}
use Rattle.time_view.specs.States.{node_copies}
use Rattle.time_view.specs.Puts.{ArePut}
use Rattle.time_view.proofs.copies.put_all_copies.Given as goal

abbrev pub invariant-loop-node : goal.invariant-loop-node
invariant-loop-node g l =
    let m = g.M.Reported.meaning l.m in
    record {
      put : ArePut l.fn.out.items l.out.items l.count (flat_map (node_copies m.sizes m.past.state) (range_with_len 0 l.node));
      few : l.count ≤ 262144 * l.node;
    }
