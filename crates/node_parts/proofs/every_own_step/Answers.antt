-- By the law of one step, and by induction on the events of a run.
use Rattle.node_parts.proofs.Law.{law_of_parts}
use Rattle.node_parts.proofs.Runs.{run_goes_on}
use Rattle.node_parts.proofs.OwnChange.{own_change}
use Rattle.node_parts.proofs.Departures.{count_is}
use Rattle.node_parts.proofs.every_own_step.Goals as goal

pub returns-clause-law : goal.returns-clause-law
returns-clause-law c = law_of_parts

pub returns-clause-run : goal.returns-clause-run
returns-clause-run c = run_goes_on

pub returns-clause-change : goal.returns-clause-change
returns-clause-change c = own_change

pub returns-clause-count : goal.returns-clause-count
returns-clause-count c = count_is
