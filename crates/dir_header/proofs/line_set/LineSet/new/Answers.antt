-- No bit is set.
use Rattle.std.proofs.Common.{refl}
use Rattle.dir_header.proofs.LineSets.{empty_marked, empty_lines}
use Rattle.dir_header.proofs.line_set.LineSet.new.Goals as goal

pub invariant_of-result : goal.invariant_of-result
invariant_of-result c = empty_marked _ refl

pub returns : goal.returns
returns c = empty_lines _ refl
