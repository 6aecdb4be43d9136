use Rattle.std.proofs.Common.{sym, subst}
use Rattle.op_model.specs.Programs.{IsProgramOf}
use Rattle.node_box.specs.Boxes.{LinkedNode}
use Rattle.seat_rows.proofs.boxes.boxed.Goals as goal

pub new-requires-3-clause-program : goal.new-requires-3-clause-program
new-requires-3-clause-program g c = subst (λ (n : LinkedNode). IsProgramOf n.sizes n.number n.program) (sym c.in_ok-node.ensures) c.requires.program
