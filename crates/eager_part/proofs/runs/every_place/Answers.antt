-- By induction on the events.
use Rattle.eager_part.proofs.OwnRuns.{eager_place_run}
use Rattle.eager_part.proofs.runs.every_place.Goals as goal

pub returns : goal.returns
returns c = record { within = eager_place_run }
