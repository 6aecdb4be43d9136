-- Each event is its node's own, or the message at the front of a lane.
use Rattle.std.proofs.Common.{◌≡◌, true, refl, map, ap, ◌∙◌, sym, subst}
use Rattle.std.specs.Prelude.{nat_lt}
use Rattle.line_map.specs.Sizes.{home_of}
use Rattle.op_model.specs.declared.events.Class.TheVariants.{Request}
use Rattle.op_model.specs.declared.events.Event.{Event}
use Rattle.op_model.specs.declared.events.Event.TheVariants.{Hit, Issue, Evict, Reclaim}
use Rattle.op_model.specs.Events.Step.{none_off, act, departures, has_room}
use Rattle.magic_node.specs.declared.acts.LocalEvent.TheVariants as own
use Rattle.machine.specs.Kept.{charge_in}
use Rattle.machine.specs.Acts.{IsPermitIn}
use Rattle.magic_node.specs.Nodes.{input_of}
use Rattle.machine.specs.Faces.{face_of}
use Rattle.machine.proofs.Events.{in_state, own-permit}
use Rattle.machine.proofs.enabled.can_make.Goals as goal

pub returns-in-Hit : goal.returns-in-Hit
returns-in-Hit g c =
    let faces = map (face_of {D = g.row.D.Denot}) c.args.nodes.now.items in
    let lane = (g.Q.Lanes.meaning c.args.lanes.now).lane in
    subst (λ (e : Event). IsPermitIn (charge_in faces) c.args.cfg faces lane e c.can_do_alone.result) (sym c.in-Hit.is)
    (own-permit (charge_in faces) c.args.cfg faces faces lane c.requires.nodes (Hit c.in-Hit.node) c.in-Hit.node (input_of own.Hit true) none_off refl c.can_do_alone.result c.can_do_alone.ensures)

pub returns-in-Issue : goal.returns-in-Issue
returns-in-Issue g c =
    let faces = map (face_of {D = g.row.D.Denot}) c.args.nodes.now.items in
    let lane = (g.Q.Lanes.meaning c.args.lanes.now).lane in
    subst (λ (e : Event). IsPermitIn (charge_in faces) c.args.cfg faces lane e c.can_do_alone-in-Issue.result) (sym c.in-Issue.is)
    (own-permit (charge_in faces) c.args.cfg faces faces lane c.requires.nodes (Issue c.in-Issue.node) c.in-Issue.node (input_of own.Issue true) none_off refl c.can_do_alone-in-Issue.result c.can_do_alone-in-Issue.ensures)

pub returns-in-Evict : goal.returns-in-Evict
returns-in-Evict g c =
    let faces = map (face_of {D = g.row.D.Denot}) c.args.nodes.now.items in
    let lane = (g.Q.Lanes.meaning c.args.lanes.now).lane in
    let home = c.home_of.ensures.value in
    let room_is : nat_lt c.evictions.result c.evicts.result ≡ has_room c.args.cfg (lane c.in-Evict.node (home_of c.args.cfg c.in-Evict.line) Request) =
    ap (λ n. nat_lt n c.evicts.result) (c.evictions.ensures.value ∙ ap (λ h. departures (lane c.in-Evict.node h Request)) home) ∙ ap (nat_lt (departures (lane c.in-Evict.node (home_of c.args.cfg c.in-Evict.line) Request))) c.evicts.ensures.value in
    let is = ap (λ r. act c.in-Evict.node none_off (in_state (charge_in faces) c.args.cfg faces faces lane c.requires.nodes c.in-Evict.node (input_of (own.Evict c.in-Evict.line c.in-Evict.kind) r))) (sym room_is) in
    subst (λ (e : Event). IsPermitIn (charge_in faces) c.args.cfg faces lane e c.can_do_alone-in-Evict.result) (sym c.in-Evict.is)
    (own-permit (charge_in faces) c.args.cfg faces faces lane c.requires.nodes (Evict c.in-Evict.node c.in-Evict.line c.in-Evict.kind) c.in-Evict.node (input_of (own.Evict c.in-Evict.line c.in-Evict.kind) (nat_lt c.evictions.result c.evicts.result)) none_off is c.can_do_alone-in-Evict.result c.can_do_alone-in-Evict.ensures)

pub returns-in-Reclaim : goal.returns-in-Reclaim
returns-in-Reclaim g c =
    let faces = map (face_of {D = g.row.D.Denot}) c.args.nodes.now.items in
    let lane = (g.Q.Lanes.meaning c.args.lanes.now).lane in
    let is = ap (λ n. act n none_off (in_state (charge_in faces) c.args.cfg faces faces lane c.requires.nodes n (input_of (own.Reclaim c.in-Reclaim.line) true))) (sym c.home_of-home.ensures.value) in
    subst (λ (e : Event). IsPermitIn (charge_in faces) c.args.cfg faces lane e c.can_do_alone-in-Reclaim.result) (sym c.in-Reclaim.is)
    (own-permit (charge_in faces) c.args.cfg faces faces lane c.requires.nodes (Reclaim c.in-Reclaim.line) c.home_of-home.result (input_of (own.Reclaim c.in-Reclaim.line) true) none_off is c.can_do_alone-in-Reclaim.result c.can_do_alone-in-Reclaim.ensures)
