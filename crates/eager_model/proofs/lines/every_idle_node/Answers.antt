use Rattle.eager_model.proofs.AnyLine.{eager-empty, eager-still}
use Rattle.eager_model.proofs.lines.every_idle_node.Goals as goal

pub returns-clause-empty : goal.returns-clause-empty
returns-clause-empty c = λ me home from alone room content share empty none local. eager-empty me home from alone room share empty none local content

pub returns-clause-still : goal.returns-clause-still
returns-clause-still c = λ me home from alone room content share none. eager-still me home from alone room share none content
