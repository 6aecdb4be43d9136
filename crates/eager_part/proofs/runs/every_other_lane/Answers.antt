-- Every run keeps to the machine from the start on.
use Rattle.eager_part.proofs.RangedRuns.{headers_in, messages_in, other_copies, other_lanes}
use Rattle.eager_part.proofs.runs.every_other_lane.Goals as goal

pub returns-clause-empty : goal.returns-clause-empty
returns-clause-empty c = λ trace events past src dst class all runs far. other_lanes trace events past all runs src dst class far

pub returns-clause-absent : goal.returns-clause-absent
returns-clause-absent c = λ trace events past node line all runs far. other_copies trace events past all runs node line far

pub returns-clause-headers : goal.returns-clause-headers
returns-clause-headers c = λ trace events past line all runs. headers_in trace events past all runs line

pub returns-clause-messages : goal.returns-clause-messages
returns-clause-messages c = λ trace events past src dst class all runs. messages_in trace events past all runs src dst class
