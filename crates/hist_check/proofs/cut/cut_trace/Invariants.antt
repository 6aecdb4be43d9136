use Rattle.std.proofs.Common.{length}
use Rattle.hist_check.proofs.Cuts.{IsReadOn}
use Rattle.hist_check.proofs.cut.cut_trace.Given as goal

abbrev pub invariant-loop-rest : goal.invariant-loop-rest
invariant-loop-rest l = IsReadOn l.bytes l.rest l.next

abbrev pub decreases-loop-rest : goal.decreases-loop-rest
decreases-loop-rest l = length l.rest
