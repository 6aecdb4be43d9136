-- The node stands at the place of its number.
use Rattle.std.proofs.Common.{◌<◌, ap, subst, sym, ◌∙◌}
use Rattle.eager_machine.specs.Journals.{served_in}
use Rattle.eager_machine.specs.Machines.{EagerMachineView}
use Rattle.eager_machine.specs.Outboxes.{under_way}
use Rattle.eager_machine.proofs.NodeLists.{node-there}
use Rattle.eager_machine.proofs.Views.{view-node}
use Rattle.eager_machine.proofs.eager.EagerMachine.node.Goals as goal

pub returns-clause-sizes : goal.returns-clause-sizes
returns-clause-sizes c =
    let run = c.self.inside.run in
    let below : c.args.n < run.cfg.nodes = subst (λ (v : EagerMachineView). c.args.n < v.sizes.nodes) (sym c.self.view_is) c.requires in
    let there = node-there run.cfg run.nodes.items c.args.n c.index.result.now c.index.result.now c.self.invariant.kept.nodes_are below c.index.ensures in
    (c.self.invariant.kept.nodes_are.each c.args.n c.index.result.now there).same_sizes ∙ ap (λ (v : EagerMachineView). v.sizes) c.self.view_is

pub returns-clause-node : goal.returns-clause-node
returns-clause-node c =
    let run = c.self.inside.run in
    let below : c.args.n < run.cfg.nodes = subst (λ (v : EagerMachineView). c.args.n < v.sizes.nodes) (sym c.self.view_is) c.requires in
    let there = node-there run.cfg run.nodes.items c.args.n c.index.result.now c.index.result.now c.self.invariant.kept.nodes_are below c.index.ensures in
    λ past ran. view-node run.cfg run.nodes.items (under_way run.lanes run.out) run.journal.events.items (served_in run.journal.served.items) c.args.self.now c.self.invariant.kept c.self.view_is c.args.n c.index.result.now there past ran
