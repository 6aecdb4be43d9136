use Rattle.std.proofs.Common.{arith}
use Rattle.op_model.specs.Shares.{copy_of}
use Rattle.time_view.specs.States.{copy_lines}
use Rattle.time_view.proofs.Putting.{range_put}
use Rattle.time_view.proofs.copies.put_copies_of.Goals as goal

pub loop-line-preserved : goal.loop-line-preserved
loop-line-preserved g c =
    let m = g.M.Reported.meaning c.args.m.now in
    record {
      put = range_put (λ line. copy_lines c.args.node line (copy_of (m.past.state.share c.args.node) line)) c.args.out.now.items c.loop-line.out.items c.put_if_copied.new.out.items c.loop-line.count c.in_ok-count.field-0 c.loop-line.line c.loop-line.invariant.put c.in_ok-count.ensures.put;
      few = omega (arith, c.loop-line.invariant.few, c.in_ok-count.ensures.few);
    }
