-- By induction on the events.
use Rattle.eager_part.proofs.BoundRuns.{bounded_departures}
use Rattle.eager_part.proofs.WayRuns.{own_lane}
use Rattle.eager_part.proofs.runs.every_lane.Goals as goal

pub returns-clause-departures : goal.returns-clause-departures
returns-clause-departures c = λ trace events past a b runs. bounded_departures trace events past runs a b

pub returns-clause-own : goal.returns-clause-own
returns-clause-own c = λ trace events past n class runs. own_lane trace events past runs n class
