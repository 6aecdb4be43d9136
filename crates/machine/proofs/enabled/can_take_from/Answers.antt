-- What the node would take is what it would take in the state.
use Rattle.std.proofs.Common.{◌<◌, map, sym, subst, ap, ◌∙◌}
use Rattle.line_map.specs.Sizes.{Sizes}
use Rattle.op_model.specs.Events.Node.{TakeFrom, permit}
use Rattle.machine.specs.Kept.{charge_in}
use Rattle.machine.proofs.Doing.{node-there, meets-at-node}
use Rattle.machine.specs.Faces.{face_of}
use Rattle.machine.proofs.Faces.{local-at}
use Rattle.machine.proofs.enabled.can_take_from.Goals as goal

pub can_take-requires-clause-src : goal.can_take-requires-clause-src
can_take-requires-clause-src g c =
    let face = face_of {D = g.row.D.Denot} in
    let faces = map face c.args.nodes.now.items in
    let node = c.index.result.now in
    let there = node-there c.args.cfg (charge_in faces) face c.args.nodes.now.items c.args.dst node node c.requires.nodes c.requires.to c.index.ensures in
    let is = c.requires.nodes.each c.args.dst (face node) there in
    subst (λ (s : Sizes). c.args.src < s.nodes) (sym is.same_sizes) c.requires.from

pub can_take-requires-clause-met : goal.can_take-requires-clause-met
can_take-requires-clause-met g c =
    let face = face_of {D = g.row.D.Denot} in
    let faces = map face c.args.nodes.now.items in
    let node = c.index.result.now in
    let there = node-there c.args.cfg (charge_in faces) face c.args.nodes.now.items c.args.dst node node c.requires.nodes c.requires.to c.index.ensures in
    let is = c.requires.nodes.each c.args.dst (face node) there in
    meets-at-node c.args.cfg (charge_in faces) faces c.args.dst (face node) there is c.args.src c.args.msg.now ∙ c.requires.row

pub returns : goal.returns
returns g c =
    let face = face_of {D = g.row.D.Denot} in
    let faces = map face c.args.nodes.now.items in
    let node = c.index.result.now in
    let there = node-there c.args.cfg (charge_in faces) face c.args.nodes.now.items c.args.dst node node c.requires.nodes c.requires.to c.index.ensures in
    let is = c.requires.nodes.each c.args.dst (face node) there in
    c.can_take.ensures ∙ ap permit (sym (local-at c.args.cfg (charge_in faces) faces c.args.dst (face node) there is (TakeFrom c.args.src c.args.msg.now c.args.victim)))
