-- Every run is sound from the start on, and from a sound machine the history is one history.
use Rattle.one_history.proofs.Runs.{ordered_run, cached_run}
use Rattle.one_history.proofs.OneHistory.{one_history}
use Rattle.one_history.proofs.every_run.Goals as goal

pub returns-clause-one : goal.returns-clause-one
returns-clause-one c = one_history

pub returns-clause-ordered : goal.returns-clause-ordered
returns-clause-ordered c = λ charge trace events past positive ran node. ordered_run charge trace events past node positive ran

pub returns-clause-cached : goal.returns-clause-cached
returns-clause-cached c = λ charge trace events past positive ran node. cached_run charge trace events past node positive ran
