use Rattle.eager_history.proofs.Runs.{sound-run}
use Rattle.eager_history.proofs.every_state.Goals as goal

pub returns : goal.returns
returns c = record { holds = sound-run }
