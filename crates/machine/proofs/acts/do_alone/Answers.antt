-- The node at the place of its number does its row.
use Rattle.std.proofs.Common.{◌≡◌, [], Err, map, set, sym, subst, ap}
use Rattle.std.specs.Prelude.{All}
use Rattle.std.proofs.lemmas.List.{map-set}
use Rattle.std.proofs.lemmas.List.Elements.{All-set}
use Rattle.std.proofs.lemmas.Result.{IfOk-weaker, IfErr-weaker}
use Rattle.op_model.specs.Operations.{Words}
use Rattle.node_share.specs.Effects.{Acts}
use Rattle.magic_node.specs.Nodes.{input_of}
use Rattle.machine.specs.Faces.{face_of, dir_of, outcome_at}
use Rattle.machine.specs.Kept.{charge_in}
use Rattle.machine.specs.Acts.{IsDoneAt, IsRefusedAt}
use Rattle.machine.proofs.Doing.{node-there, fits-event, sends-room, done-at, refused-at}
use Rattle.machine.proofs.acts.do_alone.Goals as goal

pub local-done-requires-clause-fits : goal.local-done-requires-clause-fits
local-done-requires-clause-fits g c =
    let face = face_of {D = g.row.D.Denot} in
    let faces = map face c.args.nodes.now.items in
    let old = c.index_mut-node.result.now in
    let there = node-there c.args.cfg (charge_in faces) face c.args.nodes.now.items c.args.node old old c.requires.nodes c.requires.below c.index_mut-node.ensures.value in
    let is = c.requires.nodes.each c.args.node (face old) there in
    fits-event c.args.cfg old.sizes c.args.node old.number c.args.event is.same_sizes is.number_is c.requires.line

pub local-done-requires-clause-space : goal.local-done-requires-clause-space
local-done-requires-clause-space g c =
    let face = face_of {D = g.row.D.Denot} in
    let faces = map face c.args.nodes.now.items in
    let old = c.index_mut-node.result.now in
    let there = node-there c.args.cfg (charge_in faces) face c.args.nodes.now.items c.args.node old old c.requires.nodes c.requires.below c.index_mut-node.ensures.value in
    sends-room c.args.cfg old.sizes c.args.out.now (c.requires.nodes.each c.args.node (face old) there).same_sizes c.requires.nothing

pub returns-clause-ok : goal.returns-clause-ok
returns-clause-ok g c =
    let face = face_of {D = g.row.D.Denot} in
    let faces = map face c.args.nodes.now.items in
    let old = c.index_mut-node.result.now in
    let new = c.local-done.new.self in
    let input = input_of c.args.event c.args.room in
    let there = node-there c.args.cfg (charge_in faces) face c.args.nodes.now.items c.args.node old old c.requires.nodes c.requires.below c.index_mut-node.ensures.value in
    let is = c.requires.nodes.each c.args.node (face old) there in
    let brought : Words = [] in
    IfOk-weaker c.local-done.result (λ effect. Acts old.number old.program old.share.place brought (outcome_at (face old) input) new.share c.args.out.now c.local-done.new.out effect) (λ effect. IsDoneAt c.args.cfg faces (map face (set c.args.nodes.now.items c.args.node new)) c.args.node input c.local-done.new.out.list effect)
    (λ effect acts. subst (λ fs. IsDoneAt c.args.cfg faces fs c.args.node input c.local-done.new.out.list effect) (sym (map-set face c.args.nodes.now.items c.args.node new))
    (done-at c.args.cfg (charge_in faces) faces c.args.node (face old) there is (face new) input brought c.args.out.now c.local-done.new.out effect c.requires.nothing c.number-kept.ensures.kept (ap face c.local-done.ensures.kept) acts)) c.local-done.ensures.done

pub returns-clause-dirs : goal.returns-clause-dirs
returns-clause-dirs g c =
    let directory = dir_of {D = g.row.D.Denot} in
    let nodes = c.args.nodes.now.items in
    let new = c.local-done.new.self in
    subst (All g.D.Sharers.is_sound) (sym (map-set directory nodes c.args.node new)) (All-set g.D.Sharers.is_sound (map directory nodes) c.args.node (directory new) c.told_dir.ensures c.requires.dirs)

pub returns-clause-err : goal.returns-clause-err
returns-clause-err g c =
    let face = face_of {D = g.row.D.Denot} in
    let faces = map face c.args.nodes.now.items in
    let old = c.index_mut-node.result.now in
    let input = input_of c.args.event c.args.room in
    let there = node-there c.args.cfg (charge_in faces) face c.args.nodes.now.items c.args.node old old c.requires.nodes c.requires.below c.index_mut-node.ensures.value in
    let is = c.requires.nodes.each c.args.node (face old) there in
    IfErr-weaker c.local-done.result (λ cause. outcome_at (face old) input ≡ Err cause) (λ cause. IsRefusedAt faces c.args.node input cause)
    (λ cause refuses. refused-at c.args.cfg (charge_in faces) faces c.args.node (face old) there is input cause refuses) c.local-done.ensures.refused
