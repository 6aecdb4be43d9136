-- The first marked lane is the first of the definition.
use Rattle.eager_machine.proofs.Marked.{first-between, first-is, first-silent}
use Rattle.eager_machine.proofs.lanes.AgedLanes.first_busy.Goals as goal

pub returns-clause-first : goal.returns-clause-first
returns-clause-first c =
    let f = c.self.inside in
    rw (← c.self.view_is) (first-is (record { sizes = f.cfg; lists = f.queues.items }) f.busy c.self.invariant c.first.result c.first.ensures)

pub returns-clause-within : goal.returns-clause-within
returns-clause-within c =
    let f = c.self.inside in
    rw (← c.self.view_is) (first-between (record { sizes = f.cfg; lists = f.queues.items }) f.busy c.self.invariant c.first.result c.first.ensures)

pub returns-clause-none : goal.returns-clause-none
returns-clause-none c =
    let f = c.self.inside in
    rw (← c.self.view_is) (first-silent (record { sizes = f.cfg; lists = f.queues.items }) f.busy c.self.invariant c.first.result c.first.ensures)
