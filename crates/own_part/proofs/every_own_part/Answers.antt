-- By induction on the events.
use Rattle.own_part.proofs.Runs.{own_run}
use Rattle.own_part.proofs.every_own_part.Goals as goal

pub returns : goal.returns
returns c = record { run = own_run }
