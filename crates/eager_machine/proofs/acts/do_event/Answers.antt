-- Each event is its node's own, or the message at the front of a lane.
use Rattle.std.proofs.Common.{◌≡◌, true, map, refl, ap, ◌∙◌, sym, subst}
use Rattle.std.specs.Prelude.{IfOk, IfErr, nat_lt}
use Rattle.std.proofs.lemmas.Result.{IfOk-weaker, IfErr-weaker}
use Rattle.op_model.specs.declared.events.Class.TheVariants.{Request}
use Rattle.op_model.specs.declared.events.Event.{Event}
use Rattle.op_model.specs.declared.events.Event.TheVariants.{Hit, Issue, Evict, Reclaim}
use Rattle.line_map.specs.Sizes.{home_of}
use Rattle.op_model.specs.Events.Step.{departures, has_room}
use Rattle.op_model.specs.Programs.{programs_of}
use Rattle.op_model.specs.Run.Machines.{IsEventOf}
use Rattle.magic_node.specs.declared.acts.LocalEvent.TheVariants as own
use Rattle.magic_node.specs.Nodes.{input_of}
use Rattle.eager_model.specs.Step.{answer, at_node}
use Rattle.eager_machine.specs.Acts.{IsAlone, IsAct, IsRefusedAt, IsRefusedIn}
use Rattle.eager_machine.specs.Kept.{state_of, ages_of, programs_in}
use Rattle.eager_machine.specs.Lanes.{lane_in, msg_of}
use Rattle.eager_machine.proofs.Events.{own-act, own-refused}
use Rattle.eager_machine.proofs.acts.do_event.Goals as goal

pub returns-in-Hit-clause-ok : goal.returns-in-Hit-clause-ok
returns-in-Hit-clause-ok c =
    let nodes = c.args.nodes.now.items in
    let nodes' = c.act_alone.new.nodes.items in
    let way = lane_in c.args.lanes.now in
    subst (λ (e : Event). IfOk c.act_alone.result (λ made. IsAct c.args.cfg nodes nodes' way e c.act_alone.new.out.list made)) (sym c.in-Hit.is)
    (IfOk-weaker c.act_alone.result (λ made. IsAlone c.args.cfg nodes nodes' c.in-Hit.node (input_of own.Hit true) c.act_alone.new.out.list made) (λ made. IsAct c.args.cfg nodes nodes' way (Hit c.in-Hit.node) c.act_alone.new.out.list made)
    (λ made alone. own-act c.args.cfg nodes nodes' way (Hit c.in-Hit.node) c.in-Hit.node (input_of own.Hit true) c.act_alone.new.out.list made c.requires.nodes refl refl refl refl refl (subst (IsEventOf c.args.cfg) c.in-Hit.is c.requires.of_machine) alone) c.act_alone.ensures.ok)

pub returns-in-Hit-clause-err : goal.returns-in-Hit-clause-err
returns-in-Hit-clause-err c =
    let nodes = c.args.nodes.now.items in
    let way = lane_in c.args.lanes.now in
    subst (λ (e : Event). IfErr c.act_alone.result (λ cause. IsRefusedIn c.args.cfg nodes way e cause)) (sym c.in-Hit.is)
    (IfErr-weaker c.act_alone.result (λ cause. IsRefusedAt nodes c.in-Hit.node (input_of own.Hit true) cause) (λ cause. IsRefusedIn c.args.cfg nodes way (Hit c.in-Hit.node) cause)
    (λ cause refused. own-refused c.args.cfg nodes way (Hit c.in-Hit.node) c.in-Hit.node (input_of own.Hit true) cause c.requires.nodes refl refused) c.act_alone.ensures.err)

pub returns-in-Issue-clause-ok : goal.returns-in-Issue-clause-ok
returns-in-Issue-clause-ok c =
    let nodes = c.args.nodes.now.items in
    let nodes' = c.act_alone-in-Issue.new.nodes.items in
    let way = lane_in c.args.lanes.now in
    subst (λ (e : Event). IfOk c.act_alone-in-Issue.result (λ made. IsAct c.args.cfg nodes nodes' way e c.act_alone-in-Issue.new.out.list made)) (sym c.in-Issue.is)
    (IfOk-weaker c.act_alone-in-Issue.result (λ made. IsAlone c.args.cfg nodes nodes' c.in-Issue.node (input_of own.Issue true) c.act_alone-in-Issue.new.out.list made) (λ made. IsAct c.args.cfg nodes nodes' way (Issue c.in-Issue.node) c.act_alone-in-Issue.new.out.list made)
    (λ made alone. own-act c.args.cfg nodes nodes' way (Issue c.in-Issue.node) c.in-Issue.node (input_of own.Issue true) c.act_alone-in-Issue.new.out.list made c.requires.nodes refl refl refl refl refl (subst (IsEventOf c.args.cfg) c.in-Issue.is c.requires.of_machine) alone) c.act_alone-in-Issue.ensures.ok)

pub returns-in-Issue-clause-err : goal.returns-in-Issue-clause-err
returns-in-Issue-clause-err c =
    let nodes = c.args.nodes.now.items in
    let way = lane_in c.args.lanes.now in
    subst (λ (e : Event). IfErr c.act_alone-in-Issue.result (λ cause. IsRefusedIn c.args.cfg nodes way e cause)) (sym c.in-Issue.is)
    (IfErr-weaker c.act_alone-in-Issue.result (λ cause. IsRefusedAt nodes c.in-Issue.node (input_of own.Issue true) cause) (λ cause. IsRefusedIn c.args.cfg nodes way (Issue c.in-Issue.node) cause)
    (λ cause refused. own-refused c.args.cfg nodes way (Issue c.in-Issue.node) c.in-Issue.node (input_of own.Issue true) cause c.requires.nodes refl refused) c.act_alone-in-Issue.ensures.err)

pub returns-in-Evict-clause-ok : goal.returns-in-Evict-clause-ok
returns-in-Evict-clause-ok c =
    let nodes = c.args.nodes.now.items in
    let nodes' = c.act_alone-in-Evict.new.nodes.items in
    let way = lane_in c.args.lanes.now in
    let home = c.home_of.ensures.value in
    let room = nat_lt c.evictions.result c.from.result in
    let room_is : room ≡ has_room c.args.cfg (map msg_of (way c.in-Evict.node (home_of c.args.cfg c.in-Evict.line) Request)) =
    ap (λ n. nat_lt n c.from.result) (c.evictions.ensures ∙ ap (λ h. departures (map msg_of (way c.in-Evict.node h Request))) home) ∙ ap (nat_lt (departures (map msg_of (way c.in-Evict.node (home_of c.args.cfg c.in-Evict.line) Request)))) (c.from.ensures ∙ c.evicts.ensures.value) in
    let is = ap (λ r. answer c.args.cfg (programs_of (programs_in nodes)) (state_of c.args.cfg nodes way) (ages_of nodes way) (at_node c.in-Evict.node (input_of (own.Evict c.in-Evict.line c.in-Evict.kind) r))) (sym room_is) in
    subst (λ (e : Event). IfOk c.act_alone-in-Evict.result (λ made. IsAct c.args.cfg nodes nodes' way e c.act_alone-in-Evict.new.out.list made)) (sym c.in-Evict.is)
    (IfOk-weaker c.act_alone-in-Evict.result (λ made. IsAlone c.args.cfg nodes nodes' c.in-Evict.node (input_of (own.Evict c.in-Evict.line c.in-Evict.kind) room) c.act_alone-in-Evict.new.out.list made) (λ made. IsAct c.args.cfg nodes nodes' way (Evict c.in-Evict.node c.in-Evict.line c.in-Evict.kind) c.act_alone-in-Evict.new.out.list made)
    (λ made alone. own-act c.args.cfg nodes nodes' way (Evict c.in-Evict.node c.in-Evict.line c.in-Evict.kind) c.in-Evict.node (input_of (own.Evict c.in-Evict.line c.in-Evict.kind) room) c.act_alone-in-Evict.new.out.list made c.requires.nodes is refl refl refl refl (let e = subst (IsEventOf c.args.cfg) c.in-Evict.is c.requires.of_machine in e.0) alone) c.act_alone-in-Evict.ensures.ok)

pub returns-in-Evict-clause-err : goal.returns-in-Evict-clause-err
returns-in-Evict-clause-err c =
    let nodes = c.args.nodes.now.items in
    let way = lane_in c.args.lanes.now in
    let home = c.home_of.ensures.value in
    let room = nat_lt c.evictions.result c.from.result in
    let room_is : room ≡ has_room c.args.cfg (map msg_of (way c.in-Evict.node (home_of c.args.cfg c.in-Evict.line) Request)) =
    ap (λ n. nat_lt n c.from.result) (c.evictions.ensures ∙ ap (λ h. departures (map msg_of (way c.in-Evict.node h Request))) home) ∙ ap (nat_lt (departures (map msg_of (way c.in-Evict.node (home_of c.args.cfg c.in-Evict.line) Request)))) (c.from.ensures ∙ c.evicts.ensures.value) in
    let is = ap (λ r. answer c.args.cfg (programs_of (programs_in nodes)) (state_of c.args.cfg nodes way) (ages_of nodes way) (at_node c.in-Evict.node (input_of (own.Evict c.in-Evict.line c.in-Evict.kind) r))) (sym room_is) in
    subst (λ (e : Event). IfErr c.act_alone-in-Evict.result (λ cause. IsRefusedIn c.args.cfg nodes way e cause)) (sym c.in-Evict.is)
    (IfErr-weaker c.act_alone-in-Evict.result (λ cause. IsRefusedAt nodes c.in-Evict.node (input_of (own.Evict c.in-Evict.line c.in-Evict.kind) room) cause) (λ cause. IsRefusedIn c.args.cfg nodes way (Evict c.in-Evict.node c.in-Evict.line c.in-Evict.kind) cause)
    (λ cause refused. own-refused c.args.cfg nodes way (Evict c.in-Evict.node c.in-Evict.line c.in-Evict.kind) c.in-Evict.node (input_of (own.Evict c.in-Evict.line c.in-Evict.kind) room) cause c.requires.nodes is refused) c.act_alone-in-Evict.ensures.err)

pub returns-in-Reclaim-clause-ok : goal.returns-in-Reclaim-clause-ok
returns-in-Reclaim-clause-ok c =
    let nodes = c.args.nodes.now.items in
    let nodes' = c.act_alone-in-Reclaim.new.nodes.items in
    let way = lane_in c.args.lanes.now in
    let is = ap (λ n. answer c.args.cfg (programs_of (programs_in nodes)) (state_of c.args.cfg nodes way) (ages_of nodes way) (at_node n (input_of (own.Reclaim c.in-Reclaim.line) true))) (sym c.home_of-home.ensures.value) in
    subst (λ (e : Event). IfOk c.act_alone-in-Reclaim.result (λ made. IsAct c.args.cfg nodes nodes' way e c.act_alone-in-Reclaim.new.out.list made)) (sym c.in-Reclaim.is)
    (IfOk-weaker c.act_alone-in-Reclaim.result (λ made. IsAlone c.args.cfg nodes nodes' c.home_of-home.result (input_of (own.Reclaim c.in-Reclaim.line) true) c.act_alone-in-Reclaim.new.out.list made) (λ made. IsAct c.args.cfg nodes nodes' way (Reclaim c.in-Reclaim.line) c.act_alone-in-Reclaim.new.out.list made)
    (λ made alone. own-act c.args.cfg nodes nodes' way (Reclaim c.in-Reclaim.line) c.home_of-home.result (input_of (own.Reclaim c.in-Reclaim.line) true) c.act_alone-in-Reclaim.new.out.list made c.requires.nodes is refl refl refl refl c.home_of-home.ensures.below alone) c.act_alone-in-Reclaim.ensures.ok)

pub returns-in-Reclaim-clause-err : goal.returns-in-Reclaim-clause-err
returns-in-Reclaim-clause-err c =
    let nodes = c.args.nodes.now.items in
    let way = lane_in c.args.lanes.now in
    let is = ap (λ n. answer c.args.cfg (programs_of (programs_in nodes)) (state_of c.args.cfg nodes way) (ages_of nodes way) (at_node n (input_of (own.Reclaim c.in-Reclaim.line) true))) (sym c.home_of-home.ensures.value) in
    subst (λ (e : Event). IfErr c.act_alone-in-Reclaim.result (λ cause. IsRefusedIn c.args.cfg nodes way e cause)) (sym c.in-Reclaim.is)
    (IfErr-weaker c.act_alone-in-Reclaim.result (λ cause. IsRefusedAt nodes c.home_of-home.result (input_of (own.Reclaim c.in-Reclaim.line) true) cause) (λ cause. IsRefusedIn c.args.cfg nodes way (Reclaim c.in-Reclaim.line) cause)
    (λ cause refused. own-refused c.args.cfg nodes way (Reclaim c.in-Reclaim.line) c.home_of-home.result (input_of (own.Reclaim c.in-Reclaim.line) true) cause c.requires.nodes is refused) c.act_alone-in-Reclaim.ensures.err)
