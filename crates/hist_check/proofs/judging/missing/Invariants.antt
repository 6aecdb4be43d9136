use Rattle.std.proofs.Common.{◌≡◌, ◌≤◌, ◌*◌, get_or}
use Rattle.op_model.specs.Programs.{programs_of}
use Rattle.hist_check.specs.Counts.{missing_by}
use Rattle.hist_check.proofs.judging.missing.Given as goal

abbrev pub invariant-loop-node : goal.invariant-loop-node
invariant-loop-node l = record {
  is : l.missing ≡ missing_by (programs_of l.programs) (λ node. get_or l.counts node 0) l.node;
  small : l.missing ≤ l.node * 4294967295;
}
