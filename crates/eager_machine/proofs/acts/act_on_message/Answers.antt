-- The message at the front of the lane meets a row at its taker.
use Rattle.std.proofs.Common.{◌≡◌, refl, ap, ◌∙◌, sym, subst}
use Rattle.std.proofs.lemmas.Result.{err_from_is_err_and}
use Rattle.op_model.specs.Events.Node.{TakeFrom}
use Rattle.op_model.specs.Shares.{Share}
use Rattle.cpu_cache.specs.Processors.{ProcView}
use Rattle.event_tally.specs.Marks.{is_marked_put}
use Rattle.eager_machine.specs.Acts.{at_age, IsRefusedAt}
use Rattle.eager_machine.specs.Kept.{share_or, share_in}
use Rattle.eager_machine.specs.Lanes.{lane_in}
use Rattle.eager_machine.proofs.NodeLists.{node-there}
use Rattle.eager_machine.proofs.Takes.{front-messages, take-act, take-refused}
use Rattle.eager_machine.proofs.acts.act_on_message.Goals as goal

pub is_marked_load-marked-requires : goal.is_marked_load-marked-requires
is_marked_load-marked-requires c =
    let way = lane_in c.args.lanes.now in
    c.requires.fronts.of_machine c.args.src c.args.dst c.args.class c.in-Some.aged.msg _ (front-messages way c.args.src c.args.dst c.args.class c.in-Some.aged (sym c.in-Some.ensures))

pub do_take-requires-clause-message : goal.do_take-requires-clause-message
do_take-requires-clause-message c =
    let way = lane_in c.args.lanes.now in
    c.requires.fronts.of_machine c.args.src c.args.dst c.args.class c.in-Some.aged.msg _ (front-messages way c.args.src c.args.dst c.args.class c.in-Some.aged (sym c.in-Some.ensures))

pub do_take-requires-clause-row : goal.do_take-requires-clause-row
do_take-requires-clause-row c =
    let way = lane_in c.args.lanes.now in
    c.requires.fronts.meets c.args.src c.args.dst c.args.class c.in-Some.aged.msg _ (front-messages way c.args.src c.args.dst c.args.class c.in-Some.aged (sym c.in-Some.ensures))

pub returns-in_err-did-clause-err : goal.returns-in_err-did-clause-err
returns-in_err-did-clause-err c =
    let way = lane_in c.args.lanes.now in
    let nodes = c.args.nodes.now.items in
    let p = err_from_is_err_and c.from_residual.result c.from_residual.ensures.1 in
    rw p.1 (take-refused c.args.cfg nodes nodes way c.args.src c.args.dst c.args.class c.args.victim c.in-Some.aged (sym c.in-Some.ensures) p.0 c.requires.nodes
    (subst (IsRefusedAt nodes c.args.dst (TakeFrom c.args.src c.in-Some.aged.msg c.args.victim)) (sym p.2) c.in_err-did.ensures.err))

pub returns-clause-ok : goal.returns-clause-ok
returns-clause-ok c =
    let way = lane_in c.args.lanes.now in
    let nodes = c.args.nodes.now.items in
    let there = node-there c.args.cfg nodes c.args.dst c.index.result.now c.index.result.now c.requires.nodes c.requires.to c.index.ensures in
    let want : c.want.result ≡ (share_in c.args.cfg nodes c.args.dst).want = c.want.ensures.value ∙ ap (λ (p : ProcView). p.want) c.proc.ensures ∙ ap (λ (s : Share). s.want) (sym (ap (share_or c.args.cfg c.args.dst) there)) in
    take-act c.args.cfg nodes c.do_take.new.nodes.items way c.args.src c.args.dst c.args.class c.args.victim c.in-Some.aged (sym c.in-Some.ensures) c.do_take.new.out.list c.in_ok-did.did (record { node = c.args.dst; given = c.in_ok-did.did.given; done = c.is_some.result; entry = c.aged_entry.result; takes = c.take_marks.result; marked = c.is_marked_load-marked.result }) c.requires.nodes c.requires.to c.in_ok-did.ensures.ok c.in_ok-did.ensures.sent refl
    (record { given_is = refl; done_is = c.is_some.ensures; entry_is = c.aged_entry.ensures ∙ ap (at_age c.in_ok-did.did.served) c.entry_served.ensures }) c.take_marks.ensures
    (c.is_marked_load-marked.ensures ∙ ap (λ w. is_marked_put c.args.cfg c.args.dst w c.in-Some.aged.msg) want)
