use Rattle.line_invariant.proofs.Locals.{good-begin}
use Rattle.line_invariant.proofs.every_beginning.Goals as goal

pub returns-clause-kept : goal.returns-clause-kept
returns-clause-kept c = λ home line node op room outcome good free ok. (good-begin home line good node op free room outcome ok).0

pub returns-clause-served : goal.returns-clause-served
returns-clause-served c = λ home line node op room outcome good free ok. (good-begin home line good node op free room outcome ok).1

pub returns-clause-begun : goal.returns-clause-begun
returns-clause-begun c = λ home line node op room outcome good free ok. (good-begin home line good node op free room outcome ok).2

pub returns-clause-done : goal.returns-clause-done
returns-clause-done c = λ home line node op room outcome good free ok. (good-begin home line good node op free room outcome ok).3
