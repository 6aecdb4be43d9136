-- A row makes a line pending only where its home may have one more.
use Rattle.eager_part.proofs.BoundRuns.{bounded_pending}
use Rattle.eager_part.proofs.runs.every_home.Goals as goal

pub returns : goal.returns
returns c = record { pending = λ trace events past n runs. bounded_pending trace events past runs n }
