-- The message at the front of the lane meets a row at its taker.
use Rattle.std.proofs.Common.{◌≡◌, refl, map, ap, ◌∙◌, sym, subst, Some}
use Rattle.std.proofs.lemmas.Result.{err_from_is_err_and}
use Rattle.op_model.specs.Events.Node.{TakeFrom}
use Rattle.op_model.specs.Shares.{Share}
use Rattle.cpu_cache.specs.Processors.{ProcView}
use Rattle.event_tally.specs.Marks.{is_marked_put}
use Rattle.machine.specs.Kept.{charge_in, share_in}
use Rattle.machine.specs.Acts.{IsRefusedAt}
use Rattle.machine.proofs.Lists.{rest_of, front-is}
use Rattle.machine.proofs.Events.{take-act, take-refused}
use Rattle.machine.proofs.Doing.{node-there}
use Rattle.machine.specs.Faces.{face_of}
use Rattle.machine.proofs.Faces.{share_in-at}
use Rattle.machine.proofs.acts.act_on_message.Goals as goal

pub do_take-requires-clause-row : goal.do_take-requires-clause-row
do_take-requires-clause-row g c =
    let lane = (g.Q.Lanes.meaning c.args.lanes.now).lane c.args.src c.args.dst c.args.class in
    c.requires.fronts.meets c.args.src c.args.dst c.args.class c.in-Some.msg (rest_of lane) (front-is lane c.in-Some.msg (sym c.in-Some.ensures.value))

pub returns-in_err-effect-clause-err : goal.returns-in_err-effect-clause-err
returns-in_err-effect-clause-err g c =
    let face = face_of {D = g.row.D.Denot} in
    let faces = map face c.args.nodes.now.items in
    let lane = (g.Q.Lanes.meaning c.args.lanes.now).lane in
    let here = lane c.args.src c.args.dst c.args.class in
    let p = err_from_is_err_and c.from_residual.result c.from_residual.ensures.1 in
    rw p.1 (take-refused (charge_in faces) c.args.cfg faces faces lane c.requires.nodes c.args.src c.args.dst c.args.class c.args.victim c.in-Some.msg (rest_of here) (front-is here c.in-Some.msg (sym c.in-Some.ensures.value)) p.0
    (subst (IsRefusedAt faces c.args.dst (TakeFrom c.args.src c.in-Some.msg c.args.victim)) (sym p.2) c.in_err-effect.ensures.err))

pub returns-clause-ok : goal.returns-clause-ok
returns-clause-ok g c =
    let face = face_of {D = g.row.D.Denot} in
    let faces = map face c.args.nodes.now.items in
    let faces' = map face c.do_take.new.nodes.items in
    let lane = (g.Q.Lanes.meaning c.args.lanes.now).lane in
    let here = lane c.args.src c.args.dst c.args.class in
    let there = node-there c.args.cfg (charge_in faces) face c.args.nodes.now.items c.args.dst c.index.result.now c.index.result.now c.requires.nodes c.requires.to c.index.ensures in
    let want : c.want.result ≡ (share_in c.args.cfg faces c.args.dst).want = c.want.ensures.value ∙ ap (λ (p : ProcView). p.want) c.proc.ensures ∙ ap (λ (s : Share). s.want) (sym (share_in-at c.args.cfg faces c.args.dst (face c.index.result.now) there)) in
    take-act (charge_in faces) c.args.cfg faces faces' lane c.requires.nodes c.args.src c.args.dst c.args.class c.args.victim c.in-Some.msg (rest_of here) (front-is here c.in-Some.msg (sym c.in-Some.ensures.value)) c.do_take.new.out.list
    (record { node = c.args.dst; done = c.is_some.result; entry = c.entry_served.result; takes = c.take_marks.result; departs = c.is_departure.result; marked = c.is_marked_load-marked.result }) c.in_ok-effect.effect refl c.requires.to c.in_ok-effect.ensures.ok
    (record { done_is = c.is_some.ensures; entry_is = c.entry_served.ensures }) c.take_marks.ensures c.is_departure.ensures
    (c.is_marked_load-marked.ensures ∙ ap (λ w. is_marked_put c.args.cfg c.args.dst w c.in-Some.msg) want)
