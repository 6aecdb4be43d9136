use Rattle.line_invariant.proofs.Locals.{good-reclaim, good-call}
use Rattle.line_invariant.proofs.every_reclaim.Goals as goal

pub returns-clause-kept : goal.returns-clause-kept
returns-clause-kept c = λ home line room outcome good ok. good-reclaim home line good room outcome ok

pub returns-clause-called : goal.returns-clause-called
returns-clause-called c = λ home line room good idle linked. good-call home line good room idle linked
