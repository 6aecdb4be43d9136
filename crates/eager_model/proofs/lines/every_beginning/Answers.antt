use Rattle.eager_model.proofs.EachLine.{any-begin}
use Rattle.eager_model.proofs.lines.every_beginning.Goals as goal

pub returns-clause-kept : goal.returns-clause-kept
returns-clause-kept c = λ home line node op room outcome good free ok. (any-begin home line good node op room outcome free ok).0

pub returns-clause-served : goal.returns-clause-served
returns-clause-served c = λ home line node op room outcome good free ok. (any-begin home line good node op room outcome free ok).2

pub returns-clause-aged : goal.returns-clause-aged
returns-clause-aged c = λ home line node op room outcome good free ok. (any-begin home line good node op room outcome free ok).1

pub returns-clause-begun : goal.returns-clause-begun
returns-clause-begun c = λ home line node op room outcome good free ok. (any-begin home line good node op room outcome free ok).3

pub returns-clause-done : goal.returns-clause-done
returns-clause-done c = λ home line node op room outcome good free ok. (any-begin home line good node op room outcome free ok).4
