use Rattle.std.proofs.Common.{subst, arith}
use Rattle.dir_report.specs.Reports.{header_at}
use Rattle.op_model.specs.Operations.{Words}
use Rattle.time_view.specs.Puts.{ArePut}
use Rattle.time_view.specs.States.{memory_lines}
use Rattle.time_view.proofs.Putting.{range_put}
use Rattle.time_view.proofs.memory.put_all_memory.Goals as goal

pub loop-line-preserved : goal.loop-line-preserved
loop-line-preserved g c =
    let m = g.M.Reported.meaning c.args.m.now in
    let line = c.loop-line.line in
    let one : ArePut c.loop-line.out.items c.put_if_written.new.out.items c.in_ok-count.field-0 (memory_lines line (header_at m.sizes m.past.state line).memory) =
    subst (λ (words : Words). ArePut c.loop-line.out.items c.put_if_written.new.out.items c.in_ok-count.field-0 (memory_lines line words)) c.memory.ensures.value c.in_ok-count.ensures.put in
    record {
      put = range_put (λ line. memory_lines line (header_at m.sizes m.past.state line).memory) c.args.out.now.items c.loop-line.out.items c.put_if_written.new.out.items c.loop-line.count c.in_ok-count.field-0 line c.loop-line.invariant.put one;
      few = omega (arith, c.loop-line.invariant.few, c.in_ok-count.ensures.few);
    }
