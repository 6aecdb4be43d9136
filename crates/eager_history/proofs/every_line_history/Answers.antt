-- Every run is sound, and from a sound machine each line has one history.
use Rattle.eager_history.proofs.Runs.{sound-run}
use Rattle.eager_history.proofs.LineHistory.{one-line-history}
use Rattle.eager_history.proofs.every_line_history.Goals as goal

pub returns : goal.returns
returns c = record { one = λ trace events past positive ran line. one-line-history trace past (sound-run trace events past positive ran) line }
