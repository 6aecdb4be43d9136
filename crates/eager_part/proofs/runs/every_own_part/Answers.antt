-- By induction on the events.
use Rattle.eager_part.proofs.OwnRuns.{eager_own_run}
use Rattle.eager_part.proofs.runs.every_own_part.Goals as goal

pub returns : goal.returns
returns c = record { run = eager_own_run }
