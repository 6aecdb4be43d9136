use Rattle.eager_history.proofs.Runs.{sound-run}
use Rattle.eager_history.proofs.every_node.Goals as goal

pub returns-clause-ordered : goal.returns-clause-ordered
returns-clause-ordered c = λ trace events past node positive ran. (sound-run trace events past positive ran).ordered node

pub returns-clause-cached : goal.returns-clause-cached
returns-clause-cached c = λ trace events past node positive ran. (sound-run trace events past positive ran).cached node
