-- Each event is its node's own, or the message at the front of a lane.
use Rattle.std.proofs.Common.{◌≡◌, true, refl, map, ap, ◌∙◌, sym, subst}
use Rattle.std.specs.Prelude.{IfOk, IfErr, nat_lt}
use Rattle.std.proofs.lemmas.Result.{IfOk-weaker, IfErr-weaker}
use Rattle.op_model.specs.declared.events.Class.TheVariants.{Request}
use Rattle.op_model.specs.declared.events.Event.{Event}
use Rattle.op_model.specs.declared.events.Event.TheVariants.{Hit, Issue, Evict, Reclaim}
use Rattle.line_map.specs.Sizes.{home_of}
use Rattle.op_model.specs.Events.Step.{none_off, act, departures, has_room}
use Rattle.magic_node.specs.declared.acts.LocalEvent.TheVariants as own
use Rattle.machine.specs.Kept.{charge_in}
use Rattle.machine.specs.Acts.{IsAlone, IsAct, IsRefusedAt, IsRefusedIn}
use Rattle.magic_node.specs.Nodes.{input_of}
use Rattle.op_model.specs.Run.Machines.{IsEventOf}
use Rattle.machine.specs.Faces.{face_of}
use Rattle.machine.proofs.Events.{in_state, own-act, own-refused}
use Rattle.machine.proofs.acts.do_event.Goals as goal

pub returns-in-Hit-clause-ok : goal.returns-in-Hit-clause-ok
returns-in-Hit-clause-ok g c =
    let face = face_of {D = g.row.D.Denot} in
    let faces = map face c.args.nodes.now.items in
    let faces' = map face c.act_alone.new.nodes.items in
    let lane = (g.Q.Lanes.meaning c.args.lanes.now).lane in
    subst (λ (e : Event). IfOk c.act_alone.result (λ made. IsAct (charge_in faces) c.args.cfg faces faces' lane e c.act_alone.new.out.list made)) (sym c.in-Hit.is)
    (IfOk-weaker c.act_alone.result (λ made. IsAlone c.args.cfg faces faces' c.in-Hit.node (input_of own.Hit true) c.act_alone.new.out.list made) (λ made. IsAct (charge_in faces) c.args.cfg faces faces' lane (Hit c.in-Hit.node) c.act_alone.new.out.list made)
    (λ made alone. own-act (charge_in faces) c.args.cfg faces faces' lane c.requires.nodes (Hit c.in-Hit.node) c.in-Hit.node own.Hit true c.act_alone.new.out.list made refl refl refl refl tt (subst (IsEventOf c.args.cfg) c.in-Hit.is c.requires.of_machine) alone) c.act_alone.ensures.ok)

pub returns-in-Hit-clause-err : goal.returns-in-Hit-clause-err
returns-in-Hit-clause-err g c =
    let face = face_of {D = g.row.D.Denot} in
    let faces = map face c.args.nodes.now.items in
    let faces' = map face c.act_alone.new.nodes.items in
    let lane = (g.Q.Lanes.meaning c.args.lanes.now).lane in
    subst (λ (e : Event). IfErr c.act_alone.result (λ cause. IsRefusedIn (charge_in faces) c.args.cfg faces lane e cause)) (sym c.in-Hit.is)
    (IfErr-weaker c.act_alone.result (λ cause. IsRefusedAt faces c.in-Hit.node (input_of own.Hit true) cause) (λ cause. IsRefusedIn (charge_in faces) c.args.cfg faces lane (Hit c.in-Hit.node) cause)
    (λ cause refused. own-refused (charge_in faces) c.args.cfg faces faces' lane c.requires.nodes (Hit c.in-Hit.node) c.in-Hit.node (input_of own.Hit true) cause refl refused) c.act_alone.ensures.err)

pub returns-in-Issue-clause-ok : goal.returns-in-Issue-clause-ok
returns-in-Issue-clause-ok g c =
    let face = face_of {D = g.row.D.Denot} in
    let faces = map face c.args.nodes.now.items in
    let faces' = map face c.act_alone-in-Issue.new.nodes.items in
    let lane = (g.Q.Lanes.meaning c.args.lanes.now).lane in
    subst (λ (e : Event). IfOk c.act_alone-in-Issue.result (λ made. IsAct (charge_in faces) c.args.cfg faces faces' lane e c.act_alone-in-Issue.new.out.list made)) (sym c.in-Issue.is)
    (IfOk-weaker c.act_alone-in-Issue.result (λ made. IsAlone c.args.cfg faces faces' c.in-Issue.node (input_of own.Issue true) c.act_alone-in-Issue.new.out.list made) (λ made. IsAct (charge_in faces) c.args.cfg faces faces' lane (Issue c.in-Issue.node) c.act_alone-in-Issue.new.out.list made)
    (λ made alone. own-act (charge_in faces) c.args.cfg faces faces' lane c.requires.nodes (Issue c.in-Issue.node) c.in-Issue.node own.Issue true c.act_alone-in-Issue.new.out.list made refl refl refl refl tt (subst (IsEventOf c.args.cfg) c.in-Issue.is c.requires.of_machine) alone) c.act_alone-in-Issue.ensures.ok)

pub returns-in-Issue-clause-err : goal.returns-in-Issue-clause-err
returns-in-Issue-clause-err g c =
    let face = face_of {D = g.row.D.Denot} in
    let faces = map face c.args.nodes.now.items in
    let faces' = map face c.act_alone-in-Issue.new.nodes.items in
    let lane = (g.Q.Lanes.meaning c.args.lanes.now).lane in
    subst (λ (e : Event). IfErr c.act_alone-in-Issue.result (λ cause. IsRefusedIn (charge_in faces) c.args.cfg faces lane e cause)) (sym c.in-Issue.is)
    (IfErr-weaker c.act_alone-in-Issue.result (λ cause. IsRefusedAt faces c.in-Issue.node (input_of own.Issue true) cause) (λ cause. IsRefusedIn (charge_in faces) c.args.cfg faces lane (Issue c.in-Issue.node) cause)
    (λ cause refused. own-refused (charge_in faces) c.args.cfg faces faces' lane c.requires.nodes (Issue c.in-Issue.node) c.in-Issue.node (input_of own.Issue true) cause refl refused) c.act_alone-in-Issue.ensures.err)

pub returns-in-Evict-clause-ok : goal.returns-in-Evict-clause-ok
returns-in-Evict-clause-ok g c =
    let face = face_of {D = g.row.D.Denot} in
    let faces = map face c.args.nodes.now.items in
    let faces' = map face c.act_alone-in-Evict.new.nodes.items in
    let lane = (g.Q.Lanes.meaning c.args.lanes.now).lane in
    let home = c.home_of.ensures.value in
    let room_is : nat_lt c.evictions.result c.evicts.result ≡ has_room c.args.cfg (lane c.in-Evict.node (home_of c.args.cfg c.in-Evict.line) Request) =
    ap (λ n. nat_lt n c.evicts.result) (c.evictions.ensures.value ∙ ap (λ h. departures (lane c.in-Evict.node h Request)) home) ∙ ap (nat_lt (departures (lane c.in-Evict.node (home_of c.args.cfg c.in-Evict.line) Request))) c.evicts.ensures.value in
    let is = ap (λ r. act c.in-Evict.node none_off (in_state (charge_in faces) c.args.cfg faces faces' lane c.requires.nodes c.in-Evict.node (input_of (own.Evict c.in-Evict.line c.in-Evict.kind) r))) (sym room_is) in
    subst (λ (e : Event). IfOk c.act_alone-in-Evict.result (λ made. IsAct (charge_in faces) c.args.cfg faces faces' lane e c.act_alone-in-Evict.new.out.list made)) (sym c.in-Evict.is)
    (IfOk-weaker c.act_alone-in-Evict.result (λ made. IsAlone c.args.cfg faces faces' c.in-Evict.node (input_of (own.Evict c.in-Evict.line c.in-Evict.kind) (nat_lt c.evictions.result c.evicts.result)) c.act_alone-in-Evict.new.out.list made) (λ made. IsAct (charge_in faces) c.args.cfg faces faces' lane (Evict c.in-Evict.node c.in-Evict.line c.in-Evict.kind) c.act_alone-in-Evict.new.out.list made)
    (λ made alone. own-act (charge_in faces) c.args.cfg faces faces' lane c.requires.nodes (Evict c.in-Evict.node c.in-Evict.line c.in-Evict.kind) c.in-Evict.node (own.Evict c.in-Evict.line c.in-Evict.kind) (nat_lt c.evictions.result c.evicts.result) c.act_alone-in-Evict.new.out.list made is refl refl refl tt (let e = subst (IsEventOf c.args.cfg) c.in-Evict.is c.requires.of_machine in e.0) alone) c.act_alone-in-Evict.ensures.ok)

pub returns-in-Evict-clause-err : goal.returns-in-Evict-clause-err
returns-in-Evict-clause-err g c =
    let face = face_of {D = g.row.D.Denot} in
    let faces = map face c.args.nodes.now.items in
    let faces' = map face c.act_alone-in-Evict.new.nodes.items in
    let lane = (g.Q.Lanes.meaning c.args.lanes.now).lane in
    let home = c.home_of.ensures.value in
    let room_is : nat_lt c.evictions.result c.evicts.result ≡ has_room c.args.cfg (lane c.in-Evict.node (home_of c.args.cfg c.in-Evict.line) Request) =
    ap (λ n. nat_lt n c.evicts.result) (c.evictions.ensures.value ∙ ap (λ h. departures (lane c.in-Evict.node h Request)) home) ∙ ap (nat_lt (departures (lane c.in-Evict.node (home_of c.args.cfg c.in-Evict.line) Request))) c.evicts.ensures.value in
    let is = ap (λ r. act c.in-Evict.node none_off (in_state (charge_in faces) c.args.cfg faces faces' lane c.requires.nodes c.in-Evict.node (input_of (own.Evict c.in-Evict.line c.in-Evict.kind) r))) (sym room_is) in
    subst (λ (e : Event). IfErr c.act_alone-in-Evict.result (λ cause. IsRefusedIn (charge_in faces) c.args.cfg faces lane e cause)) (sym c.in-Evict.is)
    (IfErr-weaker c.act_alone-in-Evict.result (λ cause. IsRefusedAt faces c.in-Evict.node (input_of (own.Evict c.in-Evict.line c.in-Evict.kind) (nat_lt c.evictions.result c.evicts.result)) cause) (λ cause. IsRefusedIn (charge_in faces) c.args.cfg faces lane (Evict c.in-Evict.node c.in-Evict.line c.in-Evict.kind) cause)
    (λ cause refused. own-refused (charge_in faces) c.args.cfg faces faces' lane c.requires.nodes (Evict c.in-Evict.node c.in-Evict.line c.in-Evict.kind) c.in-Evict.node (input_of (own.Evict c.in-Evict.line c.in-Evict.kind) (nat_lt c.evictions.result c.evicts.result)) cause is refused) c.act_alone-in-Evict.ensures.err)

pub returns-in-Reclaim-clause-ok : goal.returns-in-Reclaim-clause-ok
returns-in-Reclaim-clause-ok g c =
    let face = face_of {D = g.row.D.Denot} in
    let faces = map face c.args.nodes.now.items in
    let faces' = map face c.act_alone-in-Reclaim.new.nodes.items in
    let lane = (g.Q.Lanes.meaning c.args.lanes.now).lane in
    let is = ap (λ n. act n none_off (in_state (charge_in faces) c.args.cfg faces faces' lane c.requires.nodes n (input_of (own.Reclaim c.in-Reclaim.line) true))) (sym c.home_of-home.ensures.value) in
    subst (λ (e : Event). IfOk c.act_alone-in-Reclaim.result (λ made. IsAct (charge_in faces) c.args.cfg faces faces' lane e c.act_alone-in-Reclaim.new.out.list made)) (sym c.in-Reclaim.is)
    (IfOk-weaker c.act_alone-in-Reclaim.result (λ made. IsAlone c.args.cfg faces faces' c.home_of-home.result (input_of (own.Reclaim c.in-Reclaim.line) true) c.act_alone-in-Reclaim.new.out.list made) (λ made. IsAct (charge_in faces) c.args.cfg faces faces' lane (Reclaim c.in-Reclaim.line) c.act_alone-in-Reclaim.new.out.list made)
    (λ made alone. own-act (charge_in faces) c.args.cfg faces faces' lane c.requires.nodes (Reclaim c.in-Reclaim.line) c.home_of-home.result (own.Reclaim c.in-Reclaim.line) true c.act_alone-in-Reclaim.new.out.list made is refl refl refl tt c.home_of-home.ensures.below alone) c.act_alone-in-Reclaim.ensures.ok)

pub returns-in-Reclaim-clause-err : goal.returns-in-Reclaim-clause-err
returns-in-Reclaim-clause-err g c =
    let face = face_of {D = g.row.D.Denot} in
    let faces = map face c.args.nodes.now.items in
    let faces' = map face c.act_alone-in-Reclaim.new.nodes.items in
    let lane = (g.Q.Lanes.meaning c.args.lanes.now).lane in
    let is = ap (λ n. act n none_off (in_state (charge_in faces) c.args.cfg faces faces' lane c.requires.nodes n (input_of (own.Reclaim c.in-Reclaim.line) true))) (sym c.home_of-home.ensures.value) in
    subst (λ (e : Event). IfErr c.act_alone-in-Reclaim.result (λ cause. IsRefusedIn (charge_in faces) c.args.cfg faces lane e cause)) (sym c.in-Reclaim.is)
    (IfErr-weaker c.act_alone-in-Reclaim.result (λ cause. IsRefusedAt faces c.home_of-home.result (input_of (own.Reclaim c.in-Reclaim.line) true) cause) (λ cause. IsRefusedIn (charge_in faces) c.args.cfg faces lane (Reclaim c.in-Reclaim.line) cause)
    (λ cause refused. own-refused (charge_in faces) c.args.cfg faces faces' lane c.requires.nodes (Reclaim c.in-Reclaim.line) c.home_of-home.result (input_of (own.Reclaim c.in-Reclaim.line) true) cause is refused) c.act_alone-in-Reclaim.ensures.err)
