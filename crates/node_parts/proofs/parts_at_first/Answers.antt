-- Nothing is sent and nothing is taken at the start.
use Rattle.node_parts.proofs.Start.{start_composed, start_ready}
use Rattle.node_parts.proofs.Journal.{journal-start}
use Rattle.node_parts.proofs.parts_at_first.Goals as goal

pub returns-clause-composed : goal.returns-clause-composed
returns-clause-composed c = start_composed

pub returns-clause-ready : goal.returns-clause-ready
returns-clause-ready c = start_ready

pub returns-clause-journal : goal.returns-clause-journal
returns-clause-journal c = journal-start
