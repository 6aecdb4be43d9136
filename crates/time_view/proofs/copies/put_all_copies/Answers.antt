use Rattle.std.proofs.Common.{arith}
use Rattle.time_view.specs.States.{node_copies}
use Rattle.time_view.proofs.Putting.{range_put}
use Rattle.time_view.proofs.copies.put_all_copies.Goals as goal

pub loop-node-preserved : goal.loop-node-preserved
loop-node-preserved g c =
    let m = g.M.Reported.meaning c.args.m.now in
    record {
      put = range_put (node_copies m.sizes m.past.state) c.args.out.now.items c.loop-node.out.items c.put_copies_of.new.out.items c.loop-node.count c.in_ok-count.field-0 c.loop-node.node c.loop-node.invariant.put c.in_ok-count.ensures.put;
      few = omega (arith, c.loop-node.invariant.few, c.in_ok-count.ensures.few);
    }
