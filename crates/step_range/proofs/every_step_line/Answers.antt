-- By what its line is read as.
use Rattle.step_range.proofs.Spelled.{same-line}
use Rattle.step_range.proofs.every_step_line.Goals as goal

pub returns : goal.returns
returns c = λ sizes step other good is also same. same-line sizes step other good is also same
