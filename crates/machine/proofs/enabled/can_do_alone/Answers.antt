-- What the node would do is what it would do in the state.
use Rattle.std.proofs.Common.{map, sym, ap, ◌∙◌}
use Rattle.machine.specs.Kept.{charge_in}
use Rattle.machine.proofs.Doing.{node-there, fits-event}
use Rattle.magic_node.specs.Nodes.{input_of}
use Rattle.op_model.specs.Events.Node.{permit}
use Rattle.machine.specs.Faces.{face_of}
use Rattle.machine.proofs.Faces.{local-at}
use Rattle.machine.proofs.enabled.can_do_alone.Goals as goal

pub can_do-requires : goal.can_do-requires
can_do-requires g c =
    let face = face_of {D = g.row.D.Denot} in
    let faces = map face c.args.nodes.now.items in
    let node = c.index.result.now in
    let there = node-there c.args.cfg (charge_in faces) face c.args.nodes.now.items c.args.node node node c.requires.nodes c.requires.below c.index.ensures in
    let is = c.requires.nodes.each c.args.node (face node) there in
    fits-event c.args.cfg node.sizes c.args.node node.number c.args.event is.same_sizes is.number_is c.requires.line

pub returns : goal.returns
returns g c =
    let face = face_of {D = g.row.D.Denot} in
    let faces = map face c.args.nodes.now.items in
    let node = c.index.result.now in
    let there = node-there c.args.cfg (charge_in faces) face c.args.nodes.now.items c.args.node node node c.requires.nodes c.requires.below c.index.ensures in
    let is = c.requires.nodes.each c.args.node (face node) there in
    c.can_do.ensures ∙ ap permit (sym (local-at c.args.cfg (charge_in faces) faces c.args.node (face node) there is (input_of c.args.event c.args.room)))
