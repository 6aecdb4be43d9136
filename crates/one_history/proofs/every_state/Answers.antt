-- Every run is sound from the start on.
use Rattle.one_history.proofs.Runs.{sound_run}
use Rattle.one_history.proofs.every_state.Goals as goal

pub returns : goal.returns
returns c = record { holds = sound_run }
