use Rattle.line_invariant.proofs.FirstLine.{good-first}
use Rattle.line_invariant.proofs.every_first_line.Goals as goal

pub returns : goal.returns
returns c = record { good = good-first }
