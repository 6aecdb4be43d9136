use Rattle.eager_history.proofs.Runs.{sound-run}
use Rattle.eager_history.proofs.every_line.Goals as goal

pub returns : goal.returns
returns c = record { stands = λ trace events past line positive ran. (sound-run trace events past positive ran).lines line }
