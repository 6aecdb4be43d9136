-- The node is that of its seat's part, which has done nothing.
use Rattle.std.proofs.Common.{◌∙◌, ap, sym, subst}
use Rattle.op_model.specs.Parts.Part.{Part, taken_from, cleared_from}
use Rattle.op_model.specs.Programs.{IsProgramOf}
use Rattle.sharer_dir.specs.Linked.{first_linked}
use Rattle.node_box.specs.Boxes.{LinkedNode}
use Rattle.thread_run.proofs.Starting.{fresh_linked, new_node}
use Rattle.thread_run.proofs.start.new_box.Goals as goal

pub new-requires-2-clause-fresh : goal.new-requires-2-clause-fresh
new-requires-2-clause-fresh g c =
    fresh_linked c.args.cfg c.in_ok-dir.dir c.requires.sized (c.in_ok-dir.ensures.value ∙ (λ i. first_linked (c.lines.ensures.value i) (c.links.ensures.value i)))

pub new-requires-3-clause-node : goal.new-requires-3-clause-node
new-requires-3-clause-node g c = new_node c.args.cfg c.args.number c.args.program c.in_ok-node.node c.in_ok-dir.dir c.args.seat.part c.in_ok-node.ensures c.requires.part

pub new-requires-3-clause-program : goal.new-requires-3-clause-program
new-requires-3-clause-program g c = subst (λ (node : LinkedNode). IsProgramOf node.sizes node.number node.program) (sym c.in_ok-node.ensures) c.requires.program

pub new-requires-3-clause-unsent : goal.new-requires-3-clause-unsent
new-requires-3-clause-unsent g c = (ap (λ (part : Part). part.sent) c.requires.part, ap (λ (part : Part). part.flushed) c.requires.part)

pub new-requires-3-clause-unlogged : goal.new-requires-3-clause-unlogged
new-requires-3-clause-unlogged g c = ap (λ (part : Part). part.log) c.requires.part

pub new-requires-3-clause-ready : goal.new-requires-3-clause-ready
new-requires-3-clause-ready g c src class = ap (λ (part : Part). taken_from part src class) c.requires.part ∙ sym (ap (λ (part : Part). cleared_from part src class) c.requires.part)
