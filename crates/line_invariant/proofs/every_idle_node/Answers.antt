use Rattle.line_invariant.proofs.Away.{stays-empty, stays-still}
use Rattle.line_invariant.proofs.every_idle_node.Goals as goal

pub returns-clause-empty : goal.returns-clause-empty
returns-clause-empty c = λ node home from alone room content share empty none local. stays-empty node home from alone room share empty none local content

pub returns-clause-still : goal.returns-clause-still
returns-clause-still c = λ node home from alone room content share none. stays-still node home from alone room share none content
