-- By induction on the events.
use Rattle.eager_part.proofs.LaneRuns.{messages_of_machine, shares_of_machine}
use Rattle.eager_part.proofs.WayRuns.{lane_asks}
use Rattle.eager_part.proofs.runs.every_lane_message.Goals as goal

pub returns-clause-messages : goal.returns-clause-messages
returns-clause-messages c = λ trace events past src dst class all are runs. messages_of_machine trace events past all are runs src dst class

pub returns-clause-asks : goal.returns-clause-asks
returns-clause-asks c = λ trace events past src dst class runs. lane_asks trace events past runs src dst class

pub returns-clause-shares : goal.returns-clause-shares
returns-clause-shares c = λ trace events past node all are runs. shares_of_machine trace events past all are runs node
