-- By the law of one step, and since the journal changes at its end alone.
use Rattle.node_parts.proofs.Journal.{ticket_drawn}
use Rattle.node_parts.proofs.every_ticket.Goals as goal

pub returns-clause-journal : goal.returns-clause-journal
returns-clause-journal c = λ charge trace journal past parts node event after within is ran made ready own. (ticket_drawn charge trace journal past parts node event after within is ran made ready own).0

pub returns-clause-run : goal.returns-clause-run
returns-clause-run c = λ charge trace journal past parts node event after within is ran made ready own. (ticket_drawn charge trace journal past parts node event after within is ran made ready own).1
