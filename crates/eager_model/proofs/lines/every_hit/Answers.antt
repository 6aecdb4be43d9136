use Rattle.eager_model.proofs.EachLine.{any-hit}
use Rattle.eager_model.proofs.lines.every_hit.Goals as goal

pub returns-clause-kept : goal.returns-clause-kept
returns-clause-kept c = λ home line node op good serve. (any-hit home line good node op serve).0

pub returns-clause-aged : goal.returns-clause-aged
returns-clause-aged c = λ home line node op good serve. (any-hit home line good node op serve).1
