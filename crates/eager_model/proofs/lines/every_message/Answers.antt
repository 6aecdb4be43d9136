use Rattle.eager_model.proofs.Same.{same-message}
use Rattle.eager_model.proofs.AnyLine.{eager-alone}
use Rattle.eager_model.proofs.EachLine.{any_room}
use Rattle.eager_model.proofs.lines.every_message.Goals as goal

pub returns-clause-same : goal.returns-clause-same
returns-clause-same c = λ me home from alone room share content quiet other. same-message me home from alone room share quiet content (λ _. other)

pub returns-clause-alone : goal.returns-clause-alone
returns-clause-alone c = λ me home from alone content share waits. eager-alone me home from alone any_room share waits content
