use Rattle.std.proofs.Common.{false}
use Rattle.eager_model.proofs.AnyLine.{eager-elsewhere, begins-elsewhere}
use Rattle.eager_model.proofs.lines.every_row_elsewhere.Goals as goal

pub returns-clause-message : goal.returns-clause-message
returns-clause-message c = λ me home from alone room content share far. eager-elsewhere me home from alone room share far content

pub returns-clause-beginning : goal.returns-clause-beginning
returns-clause-beginning c = λ me home room op share far. begins-elsewhere me home me false room share far op
