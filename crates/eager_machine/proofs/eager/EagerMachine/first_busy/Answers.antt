-- The lanes hold all that is under way, and nothing that is seen has changed.
use Rattle.std.proofs.Common.{◌≡◌, ap, subst, sym, ◌∙◌}
use Rattle.std.specs.Prelude.{IfSome}
use Rattle.line_map.specs.Sizes.{Sizes}
use Rattle.eager_machine.specs.Journals.{served_in}
use Rattle.eager_machine.specs.Lanes.{IsBetween}
use Rattle.eager_machine.specs.Machines.{EagerMachineView}
use Rattle.eager_machine.specs.Outboxes.{under_way}
use Rattle.eager_machine.proofs.Views.{view-first}
use Rattle.eager_machine.proofs.eager.EagerMachine.first_busy.Goals as goal

pub returns-clause-first : goal.returns-clause-first
returns-clause-first c =
    let run = c.self.inside.run in
    let settled = c.settle.new.self in
    let sized = c.settle.ensures.kept.same_sizes ∙ c.settle.ensures.cfg in
    λ past ran. view-first run.cfg run.nodes.items (under_way run.lanes run.out) run.journal.events.items (served_in run.journal.served.items) c.args.self.now c.self.invariant.kept c.self.view_is
    settled.lanes sized c.in_ok-settle.ensures.settled c.first_busy.result c.first_busy.ensures.first past ran

pub returns-clause-within : goal.returns-clause-within
returns-clause-within c =
    let sized = c.settle.ensures.kept.same_sizes ∙ c.settle.ensures.cfg ∙ ap (λ (v : EagerMachineView). v.sizes) c.self.view_is in
    subst (λ (s : Sizes). IfSome c.first_busy.result (IsBetween s)) sized c.first_busy.ensures.within
