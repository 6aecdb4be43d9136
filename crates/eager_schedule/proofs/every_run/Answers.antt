use Rattle.eager_schedule.proofs.Promised.{keeps_promise}
use Rattle.eager_schedule.proofs.every_run.Goals as goal

pub returns : goal.returns
returns c = record { keeps = keeps_promise }
