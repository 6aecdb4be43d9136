use Rattle.line_invariant.proofs.Locals.{good-hit, hit-fresh}
use Rattle.line_invariant.proofs.every_hit.Goals as goal

pub returns-clause-kept : goal.returns-clause-kept
returns-clause-kept c = λ home line node op good serve. good-hit home line good node op serve

pub returns-clause-fresh : goal.returns-clause-fresh
returns-clause-fresh c = λ home line node op good serve. hit-fresh home line good node op serve
