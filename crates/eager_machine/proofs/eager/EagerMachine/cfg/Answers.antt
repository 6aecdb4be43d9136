-- What is kept says it.
use Rattle.eager_machine.specs.Journals.{served_in}
use Rattle.eager_machine.specs.Outboxes.{under_way}
use Rattle.eager_machine.proofs.Views.{view-machine}
use Rattle.eager_machine.proofs.eager.EagerMachine.cfg.Goals as goal

pub returns-clause-kept : goal.returns-clause-kept
returns-clause-kept c =
    let run = c.self.inside.run in
    view-machine run.cfg run.nodes.items (under_way run.lanes run.out) run.journal.events.items (served_in run.journal.served.items) c.args.self.now c.self.invariant.kept c.self.view_is
