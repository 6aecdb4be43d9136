use Rattle.std.proofs.Common.{◌≡◌, [], ◌∷◌, ◌++◌, sym, ap, ◌∙◌, subst, refl, Some}
use Rattle.std.specs.Prelude.{IsOk}
use Rattle.op_model.specs.Shares.{Linked}
use Rattle.op_model.specs.Messages.{msg_content}
use Rattle.op_model.specs.MessageWords.{words_behind}
use Rattle.op_model.specs.declared.messages.Msg.{Msg}
use Rattle.op_model.specs.declared.events.Event.TheVariants.{Take}
use Rattle.op_model.specs.Events.Node.{NodeOutcome, TakeFrom}
use Rattle.op_model.specs.declared.events.Numbered.{Numbered}
use Rattle.op_model.specs.Parts.OwnStep.{own_step}
use Rattle.op_model.specs.Parts.Part.{Part, logged, in_note, named}
use Rattle.msg_words.specs.SendList.{SendList}
use Rattle.lane_table.specs.Steps.{freed}
use Rattle.lane_table.proofs.Public.{goes}
use Rattle.node_box.specs.Boxes.{BoxView, IsBox, outcome_at}
use Rattle.node_box.specs.Outgoing.{HasRoomFor, IsPut}
use Rattle.node_box.specs.Events.{Takes}
use Rattle.node_box.proofs.Acting.{made_ok, own_number, is_after, acted_box, room_for, node_after, sends_are, sends_empty}
use Rattle.node_box.proofs.Taking.{after_take, goes_take, after_taken, one_ahead, taken_after, taken_ready}
use Rattle.node_box.proofs.open_box.OpenBox.take.Goals as goal

pub ticket-ticket-requires-clause-goes : goal.ticket-ticket-requires-clause-goes
ticket-ticket-requires-clause-goes c =
    let box : BoxView = record { node = c.self.inside.node; out = c.self.inside.out; departed = c.self.inside.departed.items; sends = c.self.inside.sends; log = c.self.inside.log; seat = c.self.inside.seat } in
    let kept : IsBox c.args.t.now box = subst (IsBox c.args.t.now) (sym c.self.view_is) c.requires.kept in
    let p : Part = c.self.inside.seat.part in
    let src = c.args.src in
    let class = c.args.class in
    let m : Msg = c.args.msg.now in
    let victim = c.args.victim in
    let found : named p.sizes (in_note p src class) ≡ Some m = subst (λ (x : BoxView). named x.seat.part.sizes (in_note x.seat.part src class) ≡ Some m) (sym c.self.view_is) c.requires.found in
    let done = made_ok (outcome_at box.node (TakeFrom src m victim)) (subst (λ (x : BoxView). IsOk (outcome_at x.node (TakeFrom src m victim))) (sym c.self.view_is) c.requires.goes) in
    goes (own_step Linked p (Take src c.number.result class victim)) (after_take p src class done.0)
    (goes_take p box.node box.node.dir kept.node c.number.result c.number.ensures.value src class victim m done.0 (kept.ready src class) found done.1)

pub put_all-requires : goal.put_all-requires
put_all-requires c =
    let box : BoxView = record { node = c.self.inside.node; out = c.self.inside.out; departed = c.self.inside.departed.items; sends = c.self.inside.sends; log = c.self.inside.log; seat = c.self.inside.seat } in
    let kept : IsBox c.args.t.now box = subst (IsBox c.args.t.now) (sym c.self.view_is) c.requires.kept in
    let p : Part = c.self.inside.seat.part in
    let src = c.args.src in
    let class = c.args.class in
    let m : Msg = c.args.msg.now in
    let victim = c.args.victim in
    let found : named p.sizes (in_note p src class) ≡ Some m = subst (λ (x : BoxView). named x.seat.part.sizes (in_note x.seat.part src class) ≡ Some m) (sym c.self.view_is) c.requires.found in
    let q : Part = c.ticket-ticket.new.self.part in
    let done = c.in-Ok.ensures.done in
    let out : NodeOutcome = done.outcome in
    let entry : Numbered = record { ticket = c.ticket-ticket.result; event = Take src p.number class victim } in
    let is : q ≡ logged (after_take p src class out) entry =
    after_taken p box.node box.node.dir kept.node c.number.result c.number.ensures.value src class victim m out q c.ticket-ticket.result (kept.ready src class) found done.is c.ticket-ticket.ensures.part in
    let brought = words_behind (msg_content m) in
    let act = outcome_at box.node (TakeFrom src m victim) in
    let empty : box.sends.list ≡ [] = ap (λ (s : SendList). s.list) kept.sends in
    let sends : c.take.new.out.list ≡ out.sends = sends_are box.node brought act box.sends c.take.new.out c.in-Ok._effect c.take.new.self.share done empty in
    subst (HasRoomFor box.out) (sym sends) (room_for c.args.t.now box q out entry kept (is_after p q _ out entry is) c.ticket-ticket.ensures.outgoing)

pub clear-requires-clause-made : goal.clear-requires-clause-made
clear-requires-clause-made c =
    let box : BoxView = record { node = c.self.inside.node; out = c.self.inside.out; departed = c.self.inside.departed.items; sends = c.self.inside.sends; log = c.self.inside.log; seat = c.self.inside.seat } in
    let kept : IsBox c.args.t.now box = subst (IsBox c.args.t.now) (sym c.self.view_is) c.requires.kept in
    let p : Part = c.self.inside.seat.part in
    let src = c.args.src in
    let class = c.args.class in
    let m : Msg = c.args.msg.now in
    let victim = c.args.victim in
    let found : named p.sizes (in_note p src class) ≡ Some m = subst (λ (x : BoxView). named x.seat.part.sizes (in_note x.seat.part src class) ≡ Some m) (sym c.self.view_is) c.requires.found in
    let q : Part = c.ticket-ticket.new.self.part in
    let done = c.in-Ok.ensures.done in
    let out : NodeOutcome = done.outcome in
    let entry : Numbered = record { ticket = c.ticket-ticket.result; event = Take src p.number class victim } in
    let is : q ≡ logged (after_take p src class out) entry =
    after_taken p box.node box.node.dir kept.node c.number.result c.number.ensures.value src class victim m out q c.ticket-ticket.result (kept.ready src class) found done.is c.ticket-ticket.ensures.part in
    one_ahead p q src class out entry is (kept.ready src class)

pub returns-clause-kept : goal.returns-clause-kept
returns-clause-kept c =
    let box : BoxView = record { node = c.self.inside.node; out = c.self.inside.out; departed = c.self.inside.departed.items; sends = c.self.inside.sends; log = c.self.inside.log; seat = c.self.inside.seat } in
    let kept : IsBox c.args.t.now box = subst (IsBox c.args.t.now) (sym c.self.view_is) c.requires.kept in
    let p : Part = c.self.inside.seat.part in
    let src = c.args.src in
    let class = c.args.class in
    let m : Msg = c.args.msg.now in
    let victim = c.args.victim in
    let found : named p.sizes (in_note p src class) ≡ Some m = subst (λ (x : BoxView). named x.seat.part.sizes (in_note x.seat.part src class) ≡ Some m) (sym c.self.view_is) c.requires.found in
    let q : Part = c.ticket-ticket.new.self.part in
    let done = c.in-Ok.ensures.done in
    let out : NodeOutcome = done.outcome in
    let entry : Numbered = record { ticket = c.ticket-ticket.result; event = Take src p.number class victim } in
    let is : q ≡ logged (after_take p src class out) entry =
    after_taken p box.node box.node.dir kept.node c.number.result c.number.ensures.value src class victim m out q c.ticket-ticket.result (kept.ready src class) found done.is c.ticket-ticket.ensures.part in
    let brought = words_behind (msg_content m) in
    let act = outcome_at box.node (TakeFrom src m victim) in
    let empty : box.sends.list ≡ [] = ap (λ (s : SendList). s.list) kept.sends in
    let sends : c.take.new.out.list ≡ out.sends = sends_are box.node brought act box.sends c.take.new.out c.in-Ok._effect c.take.new.self.share done empty in
    let r : Part = c.clear.new.self.part in
    let new : BoxView = record { node = c.take.new.self; out = c.put_all.new.out; departed = c.self.inside.departed.items; sends = c.put_all.new.sends; log = c.push.new.self; seat = c.clear.new.self } in
    acted_box c.args.t.now box new out entry kept (taken_after p q r src class out entry is c.clear.ensures.part) c.clear.ensures.seat (taken_ready p q r src class out entry is c.clear.ensures.part kept.ready)
    (node_after box.node brought act box.sends c.take.new.out c.in-Ok._effect c.take.new.self done c.take.ensures.kept) (subst (IsPut box.out new.out) sends c.put_all.ensures.out)
    (c.push.ensures.entries ∙ ap (λ n. box.log.entries ++ record { ticket = c.ticket-ticket.result; event = Take src n class victim } ∷ []) (own_number p box.node box.node.dir kept.node c.number.result c.number.ensures.value))
    refl (sends_empty box.node brought act box.sends c.take.new.out c.in-Ok._effect c.take.new.self.share done c.put_all.new.sends c.put_all.ensures.sends) refl

pub returns-clause-takes : goal.returns-clause-takes
returns-clause-takes c =
    let box : BoxView = record { node = c.self.inside.node; out = c.self.inside.out; departed = c.self.inside.departed.items; sends = c.self.inside.sends; log = c.self.inside.log; seat = c.self.inside.seat } in
    let kept : IsBox c.args.t.now box = subst (IsBox c.args.t.now) (sym c.self.view_is) c.requires.kept in
    let p : Part = c.self.inside.seat.part in
    let src = c.args.src in
    let class = c.args.class in
    let m : Msg = c.args.msg.now in
    let victim = c.args.victim in
    let found : named p.sizes (in_note p src class) ≡ Some m = subst (λ (x : BoxView). named x.seat.part.sizes (in_note x.seat.part src class) ≡ Some m) (sym c.self.view_is) c.requires.found in
    let q : Part = c.ticket-ticket.new.self.part in
    let done = c.in-Ok.ensures.done in
    let out : NodeOutcome = done.outcome in
    let entry : Numbered = record { ticket = c.ticket-ticket.result; event = Take src p.number class victim } in
    let is : q ≡ logged (after_take p src class out) entry =
    after_taken p box.node box.node.dir kept.node c.number.result c.number.ensures.value src class victim m out q c.ticket-ticket.result (kept.ready src class) found done.is c.ticket-ticket.ensures.part in
    let r : Part = c.clear.new.self.part in
    let new : BoxView = record { node = c.take.new.self; out = c.put_all.new.out; departed = c.self.inside.departed.items; sends = c.put_all.new.sends; log = c.push.new.self; seat = c.clear.new.self } in
    subst (λ (x : BoxView). Takes x new src class m victim c.ticket-ticket.result) c.self.view_is (record {
      out = out;
      does = done.is;
      part = c.clear.ensures.part ∙ ap (λ (x : Part). freed x src class) is;
      log = c.push.ensures.entries ∙ ap (λ n. box.log.entries ++ record { ticket = c.ticket-ticket.result; event = Take src n class victim } ∷ []) (own_number p box.node box.node.dir kept.node c.number.result c.number.ensures.value);
    })
