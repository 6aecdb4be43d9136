-- What the nodes did is the run's next event.
use Rattle.std.proofs.Common.{◌≡◌, ◌∷◌, ◌++◌, [], refl, sym, subst}
use Rattle.std.proofs.lemmas.Result.{IfOk-weaker}
use Rattle.op_model.specs.Run.Machines.{IsEventOf}
use Rattle.eager_machine.specs.Journals.{served_in}
use Rattle.eager_machine.specs.Machines.{EagerMachineView, IsNext}
use Rattle.eager_machine.specs.Outboxes.{under_way}
use Rattle.eager_machine.proofs.Promised.{keeps-own}
use Rattle.eager_machine.proofs.Views.{view_by, view-machine, view-next}
use Rattle.eager_machine.proofs.eager.EagerMachine.apply.Goals as goal

pub returns-clause-next : goal.returns-clause-next
returns-clause-next c =
    let run = c.self.inside.run in
    let after = c.apply.new.self in
    let made = c.apply.ensures in
    let new : EagerMachineView = view_by after.cfg after.nodes.items after.journal.events.items in
    let of = subst (λ (v : EagerMachineView). IsEventOf v.sizes c.args.event) (sym c.self.view_is) c.requires in
    λ past ran. IfOk-weaker c.apply.result (λ _. after.journal.events.items ≡ run.journal.events.items ++ c.args.event ∷ []) (λ _. IsNext c.args.self.now new past c.args.event)
    (λ _ more. view-next run.cfg run.nodes.items (under_way run.lanes run.out) run.journal.events.items (served_in run.journal.served.items) c.args.self.now c.self.invariant.kept c.self.view_is
    new c.args.event _ made.cfg made.programs more made.kept.kept.ran of past ran) made.ok

pub returns-clause-keeps : goal.returns-clause-keeps
returns-clause-keeps c =
    let after = c.apply.new.self in
    let new : EagerMachineView = view_by after.cfg after.nodes.items after.journal.events.items in
    keeps-own new (view-machine after.cfg after.nodes.items (under_way after.lanes after.out) after.journal.events.items (served_in after.journal.served.items) new c.apply.ensures.kept.kept refl)

pub returns-clause-ran : goal.returns-clause-ran
returns-clause-ran c = (_, c.apply.ensures.kept.kept.ran)
