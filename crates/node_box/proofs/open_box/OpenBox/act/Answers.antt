use Rattle.std.proofs.Common.{◌≡◌, [], ◌∷◌, ◌++◌, sym, ap, ◌∙◌, subst, refl}
use Rattle.std.specs.Prelude.{IsOk}
use Rattle.op_model.specs.Shares.{Linked}
use Rattle.op_model.specs.Events.Node.{NodeOutcome}
use Rattle.op_model.specs.declared.events.Numbered.{Numbered}
use Rattle.op_model.specs.Parts.OwnStep.{after_outcome, own_step}
use Rattle.op_model.specs.Parts.Part.{Part, logged}
use Rattle.msg_words.specs.SendList.{SendList}
use Rattle.magic_node.specs.Nodes.{input_of, FitsEvent}
use Rattle.lane_table.proofs.Public.{goes}
use Rattle.node_box.specs.Boxes.{LinkedNode, BoxView, IsBox, outcome_at}
use Rattle.node_box.specs.Outgoing.{HasRoomFor, IsPut}
use Rattle.node_box.specs.Events.{event_of, IsGate, Acts}
use Rattle.node_box.proofs.Acting.{made_ok, own_event, own_number, goes_own, is_after, acted_box, room_for, after_own, ready_own, node_after, sends_are, sends_empty}
use Rattle.node_box.proofs.open_box.OpenBox.act.Goals as goal

pub ticket-ticket-requires-clause-goes : goal.ticket-ticket-requires-clause-goes
ticket-ticket-requires-clause-goes c =
    let box : BoxView = record { node = c.self.inside.node; out = c.self.inside.out; departed = c.self.inside.departed.items; sends = c.self.inside.sends; log = c.self.inside.log; seat = c.self.inside.seat } in
    let kept : IsBox c.args.t.now box = subst (IsBox c.args.t.now) (sym c.self.view_is) c.requires.kept in
    let p : Part = c.self.inside.seat.part in
    let fits : FitsEvent box.node.sizes box.node.number c.args.event = subst (λ (x : BoxView). FitsEvent x.node.sizes x.node.number c.args.event) (sym c.self.view_is) c.requires.fits in
    let gate : IsGate p c.args.event c.args.room = subst (λ (x : BoxView). IsGate x.seat.part c.args.event c.args.room) (sym c.self.view_is) c.requires.gate in
    let done = made_ok (outcome_at box.node (input_of c.args.event c.args.room)) (subst (λ (x : BoxView). IsOk (outcome_at x.node (input_of c.args.event c.args.room))) (sym c.self.view_is) c.requires.goes) in
    goes (own_step Linked p c.named_event-made.result) (after_outcome p p.taken done.0)
    (goes_own p box.node box.node.dir kept.node c.number.result c.number.ensures.value c.named_event-made.result c.args.event c.args.room done.0 c.named_event-made.ensures fits gate done.1)

pub put_all-requires : goal.put_all-requires
put_all-requires c =
    let box : BoxView = record { node = c.self.inside.node; out = c.self.inside.out; departed = c.self.inside.departed.items; sends = c.self.inside.sends; log = c.self.inside.log; seat = c.self.inside.seat } in
    let kept : IsBox c.args.t.now box = subst (IsBox c.args.t.now) (sym c.self.view_is) c.requires.kept in
    let p : Part = c.self.inside.seat.part in
    let fits : FitsEvent box.node.sizes box.node.number c.args.event = subst (λ (x : BoxView). FitsEvent x.node.sizes x.node.number c.args.event) (sym c.self.view_is) c.requires.fits in
    let gate : IsGate p c.args.event c.args.room = subst (λ (x : BoxView). IsGate x.seat.part c.args.event c.args.room) (sym c.self.view_is) c.requires.gate in
    let q : Part = c.ticket-ticket.new.self.part in
    let done = c.in-Ok.ensures.done in
    let out : NodeOutcome = done.outcome in
    let entry : Numbered = record { ticket = c.ticket-ticket.result; event = event_of p.number c.args.event } in
    let is : q ≡ logged (after_outcome p p.taken out) entry =
    after_own p q box.node box.node.dir c.number.result c.ticket-ticket.result c.named_event-made.result c.args.event c.args.room out kept.node c.number.ensures.value c.named_event-made.ensures fits gate done.is c.ticket-ticket.ensures.part in
    let empty : box.sends.list ≡ [] = ap (λ (s : SendList). s.list) kept.sends in
    let sends : c.local.new.out.list ≡ out.sends = sends_are box.node [] (outcome_at box.node (input_of c.args.event c.args.room)) box.sends c.local.new.out c.in-Ok._effect c.local.new.self.share done empty in
    let fits = room_for c.args.t.now box q out entry kept (is_after p q p.taken out entry is) c.ticket-ticket.ensures.outgoing in
    subst (HasRoomFor box.out) (sym sends) fits

pub returns-clause-kept : goal.returns-clause-kept
returns-clause-kept c =
    let box : BoxView = record { node = c.self.inside.node; out = c.self.inside.out; departed = c.self.inside.departed.items; sends = c.self.inside.sends; log = c.self.inside.log; seat = c.self.inside.seat } in
    let kept : IsBox c.args.t.now box = subst (IsBox c.args.t.now) (sym c.self.view_is) c.requires.kept in
    let p : Part = c.self.inside.seat.part in
    let fits : FitsEvent box.node.sizes box.node.number c.args.event = subst (λ (x : BoxView). FitsEvent x.node.sizes x.node.number c.args.event) (sym c.self.view_is) c.requires.fits in
    let gate : IsGate p c.args.event c.args.room = subst (λ (x : BoxView). IsGate x.seat.part c.args.event c.args.room) (sym c.self.view_is) c.requires.gate in
    let q : Part = c.ticket-ticket.new.self.part in
    let done = c.in-Ok.ensures.done in
    let out : NodeOutcome = done.outcome in
    let act = outcome_at box.node (input_of c.args.event c.args.room) in
    let entry : Numbered = record { ticket = c.ticket-ticket.result; event = event_of p.number c.args.event } in
    let is : q ≡ logged (after_outcome p p.taken out) entry =
    after_own p q box.node box.node.dir c.number.result c.ticket-ticket.result c.named_event-made.result c.args.event c.args.room out kept.node c.number.ensures.value c.named_event-made.ensures fits gate done.is c.ticket-ticket.ensures.part in
    let empty : box.sends.list ≡ [] = ap (λ (s : SendList). s.list) kept.sends in
    let sends : c.local.new.out.list ≡ out.sends = sends_are box.node [] act box.sends c.local.new.out c.in-Ok._effect c.local.new.self.share done empty in
    let new : BoxView = record { node = c.local.new.self; out = c.put_all.new.out; departed = c.self.inside.departed.items; sends = c.put_all.new.sends; log = c.push.new.self; seat = c.ticket-ticket.new.self } in
    acted_box c.args.t.now box new out entry kept (is_after p q p.taken out entry is) c.ticket-ticket.ensures.seat (ready_own p q out entry is kept.ready)
    (node_after box.node [] act box.sends c.local.new.out c.in-Ok._effect c.local.new.self done c.local.ensures.kept) (subst (IsPut box.out new.out) sends c.put_all.ensures.out)
    (c.push.ensures.entries ∙ ap (λ e. box.log.entries ++ record { ticket = c.ticket-ticket.result; event = e } ∷ []) (c.named_event-made.ensures ∙ ap (λ n. event_of n c.args.event) (own_number p box.node box.node.dir kept.node c.number.result c.number.ensures.value)))
    refl (sends_empty box.node [] act box.sends c.local.new.out c.in-Ok._effect c.local.new.self.share done c.put_all.new.sends c.put_all.ensures.sends)
    (own_event p.sizes p.number c.args.event (subst (λ (n : LinkedNode). FitsEvent n.sizes n.number c.args.event) kept.node fits))

pub returns-clause-acts : goal.returns-clause-acts
returns-clause-acts c =
    let box : BoxView = record { node = c.self.inside.node; out = c.self.inside.out; departed = c.self.inside.departed.items; sends = c.self.inside.sends; log = c.self.inside.log; seat = c.self.inside.seat } in
    let kept : IsBox c.args.t.now box = subst (IsBox c.args.t.now) (sym c.self.view_is) c.requires.kept in
    let p : Part = c.self.inside.seat.part in
    let fits : FitsEvent box.node.sizes box.node.number c.args.event = subst (λ (x : BoxView). FitsEvent x.node.sizes x.node.number c.args.event) (sym c.self.view_is) c.requires.fits in
    let gate : IsGate p c.args.event c.args.room = subst (λ (x : BoxView). IsGate x.seat.part c.args.event c.args.room) (sym c.self.view_is) c.requires.gate in
    let q : Part = c.ticket-ticket.new.self.part in
    let done = c.in-Ok.ensures.done in
    let out : NodeOutcome = done.outcome in
    let is = after_own p q box.node box.node.dir c.number.result c.ticket-ticket.result c.named_event-made.result c.args.event c.args.room out kept.node c.number.ensures.value c.named_event-made.ensures fits gate done.is c.ticket-ticket.ensures.part in
    let new : BoxView = record { node = c.local.new.self; out = c.put_all.new.out; departed = c.self.inside.departed.items; sends = c.put_all.new.sends; log = c.push.new.self; seat = c.ticket-ticket.new.self } in
    subst (λ (x : BoxView). Acts x new c.args.event c.args.room c.ticket-ticket.result) c.self.view_is (record {
      out = out;
      does = done.is;
      part = is;
      log = c.push.ensures.entries ∙ ap (λ e. box.log.entries ++ record { ticket = c.ticket-ticket.result; event = e } ∷ []) (c.named_event-made.ensures ∙ ap (λ n. event_of n c.args.event) (own_number p box.node box.node.dir kept.node c.number.result c.number.ensures.value));
    })
