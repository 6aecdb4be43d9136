-- By induction on the events.
use Rattle.eager_part.proofs.WayRuns.{lane_class, lane_way}
use Rattle.eager_part.proofs.runs.every_message.Goals as goal

pub returns-clause-class : goal.returns-clause-class
returns-clause-class c = λ trace events past a b class runs. lane_class trace events past runs a b class

pub returns-clause-way : goal.returns-clause-way
returns-clause-way c = λ trace events past a b class runs. lane_way trace events past runs a b class
