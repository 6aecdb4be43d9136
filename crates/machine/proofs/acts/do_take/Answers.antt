-- The node at the place of its number does its row.
use Rattle.std.proofs.Common.{◌≡◌, ◌<◌, Err, ap, map, set, sym, subst, ◌∙◌}
use Rattle.std.specs.Prelude.{All}
use Rattle.std.proofs.lemmas.List.{map-set}
use Rattle.std.proofs.lemmas.List.Elements.{All-set}
use Rattle.std.proofs.lemmas.Result.{IfOk-weaker, IfErr-weaker}
use Rattle.line_map.specs.Sizes.{Sizes}
use Rattle.op_model.specs.MessageWords.{IsMsgOf, words_behind}
use Rattle.op_model.specs.Messages.{msg_content}
use Rattle.op_model.specs.Events.Node.{TakeFrom}
use Rattle.machine.specs.Kept.{charge_in}
use Rattle.machine.specs.Acts.{IsDoneAt, IsRefusedAt, FillsLine}
use Rattle.node_share.specs.Effects.{Acts}
use Rattle.machine.specs.Faces.{face_of, dir_of, outcome_at}
use Rattle.machine.proofs.Doing.{node-there, meets-at-node, sends-room, done-at, refused-at, fills-line}
use Rattle.machine.proofs.acts.do_take.Goals as goal

pub take-done-requires-clause-src : goal.take-done-requires-clause-src
take-done-requires-clause-src g c =
    let face = face_of {D = g.row.D.Denot} in
    let faces = map face c.args.nodes.now.items in
    let old = c.index_mut-node.result.now in
    let there = node-there c.args.cfg (charge_in faces) face c.args.nodes.now.items c.args.dst old old c.requires.nodes c.requires.to c.index_mut-node.ensures.value in
    let is = c.requires.nodes.each c.args.dst (face old) there in
    subst (λ (s : Sizes). c.args.src < s.nodes) (sym is.same_sizes) c.requires.from

pub take-done-requires-clause-msg : goal.take-done-requires-clause-msg
take-done-requires-clause-msg g c =
    let face = face_of {D = g.row.D.Denot} in
    let faces = map face c.args.nodes.now.items in
    let old = c.index_mut-node.result.now in
    let there = node-there c.args.cfg (charge_in faces) face c.args.nodes.now.items c.args.dst old old c.requires.nodes c.requires.to c.index_mut-node.ensures.value in
    let is = c.requires.nodes.each c.args.dst (face old) there in
    subst (λ (s : Sizes). IsMsgOf s c.args.msg.now) (sym is.same_sizes) c.requires.message

pub take-done-requires-clause-met : goal.take-done-requires-clause-met
take-done-requires-clause-met g c =
    let face = face_of {D = g.row.D.Denot} in
    let faces = map face c.args.nodes.now.items in
    let old = c.index_mut-node.result.now in
    let there = node-there c.args.cfg (charge_in faces) face c.args.nodes.now.items c.args.dst old old c.requires.nodes c.requires.to c.index_mut-node.ensures.value in
    let is = c.requires.nodes.each c.args.dst (face old) there in
    meets-at-node c.args.cfg (charge_in faces) faces c.args.dst (face old) there is c.args.src c.args.msg.now ∙ c.requires.row

pub take-done-requires-clause-space : goal.take-done-requires-clause-space
take-done-requires-clause-space g c =
    let face = face_of {D = g.row.D.Denot} in
    let faces = map face c.args.nodes.now.items in
    let old = c.index_mut-node.result.now in
    let there = node-there c.args.cfg (charge_in faces) face c.args.nodes.now.items c.args.dst old old c.requires.nodes c.requires.to c.index_mut-node.ensures.value in
    let is = c.requires.nodes.each c.args.dst (face old) there in
    sends-room c.args.cfg old.sizes c.args.out.now is.same_sizes c.requires.nothing

pub returns-clause-ok : goal.returns-clause-ok
returns-clause-ok g c =
    let face = face_of {D = g.row.D.Denot} in
    let faces = map face c.args.nodes.now.items in
    let old = c.index_mut-node.result.now in
    let new = c.take-done.new.self in
    let input = TakeFrom c.args.src c.args.msg.now c.args.victim in
    let there = node-there c.args.cfg (charge_in faces) face c.args.nodes.now.items c.args.dst old old c.requires.nodes c.requires.to c.index_mut-node.ensures.value in
    let is = c.requires.nodes.each c.args.dst (face old) there in
    let brought = words_behind (msg_content c.args.msg.now) in
    IfOk-weaker c.take-done.result (λ effect. Acts old.number old.program old.share.place brought (outcome_at (face old) input) new.share c.args.out.now c.take-done.new.out effect) (λ effect. IsDoneAt c.args.cfg faces (map face (set c.args.nodes.now.items c.args.dst new)) c.args.dst input c.take-done.new.out.list effect)
    (λ effect acts. subst (λ fs. IsDoneAt c.args.cfg faces fs c.args.dst input c.take-done.new.out.list effect) (sym (map-set face c.args.nodes.now.items c.args.dst new))
    (done-at c.args.cfg (charge_in faces) faces c.args.dst (face old) there is (face new) input brought c.args.out.now c.take-done.new.out effect c.requires.nothing c.number-kept.ensures.kept (ap face c.take-done.ensures.kept) acts)) c.take-done.ensures.done

pub returns-clause-words : goal.returns-clause-words
returns-clause-words g c =
    let face = face_of {D = g.row.D.Denot} in
    let faces = map face c.args.nodes.now.items in
    let old = c.index_mut-node.result.now in
    let new = c.take-done.new.self in
    let there = node-there c.args.cfg (charge_in faces) face c.args.nodes.now.items c.args.dst old old c.requires.nodes c.requires.to c.index_mut-node.ensures.value in
    let is = c.requires.nodes.each c.args.dst (face old) there in
    let brought = words_behind (msg_content c.args.msg.now) in
    IfOk-weaker c.take-done.result (λ effect. Acts old.number old.program old.share.place brought (outcome_at (face old) (TakeFrom c.args.src c.args.msg.now c.args.victim)) new.share c.args.out.now c.take-done.new.out effect) (λ effect. FillsLine c.args.cfg effect.served)
    (λ effect. fills-line c.args.cfg (charge_in faces) faces c.args.dst (face old) there is c.args.src c.args.msg.now c.args.victim brought c.args.out.now c.take-done.new.out (face new) effect c.told_sizes.ensures c.requires.to c.requires.from c.requires.message c.number-kept.ensures.kept c.number-kept.ensures.fits) c.take-done.ensures.done

pub returns-clause-dirs : goal.returns-clause-dirs
returns-clause-dirs g c =
    let directory = dir_of {D = g.row.D.Denot} in
    let nodes = c.args.nodes.now.items in
    let new = c.take-done.new.self in
    subst (All g.D.Sharers.is_sound) (sym (map-set directory nodes c.args.dst new)) (All-set g.D.Sharers.is_sound (map directory nodes) c.args.dst (directory new) c.told_dir.ensures c.requires.dirs)

pub returns-clause-err : goal.returns-clause-err
returns-clause-err g c =
    let face = face_of {D = g.row.D.Denot} in
    let faces = map face c.args.nodes.now.items in
    let old = c.index_mut-node.result.now in
    let input = TakeFrom c.args.src c.args.msg.now c.args.victim in
    let there = node-there c.args.cfg (charge_in faces) face c.args.nodes.now.items c.args.dst old old c.requires.nodes c.requires.to c.index_mut-node.ensures.value in
    let is = c.requires.nodes.each c.args.dst (face old) there in
    IfErr-weaker c.take-done.result (λ cause. outcome_at (face old) input ≡ Err cause) (λ cause. IsRefusedAt faces c.args.dst input cause)
    (λ cause refuses. refused-at c.args.cfg (charge_in faces) faces c.args.dst (face old) there is input cause refuses) c.take-done.ensures.refused
