use Rattle.std.proofs.Common.{rules, ◌≡◌, ◌<◌, ℕ, Bool, false, [], sym, ◌∙◌, subst, refl, Some, length-set}
use Rattle.std.specs.Vec.{with_item}
use Rattle.std.specs.Prelude.{slice_get, slice_index_or}
use Rattle.line_map.specs.Sizes.{Sizes}
use Rattle.op_model.specs.declared.events.Class.{Class}
use Rattle.op_model.specs.Messages.{msg_content}
use Rattle.op_model.specs.Events.Step.{is_departure}
use Rattle.op_model.specs.Parts.Part.{at_lane, put_lane}
use Rattle.out_space.specs.Boxes.{waiting}
use Rattle.node_box.specs.Boxes.{BoxView, IsBox}
use Rattle.node_box.proofs.Flushing.{unflushed_box, flushed_box, flags_request, flags_reply}
use Rattle.node_box.proofs.open_box.OpenBox.flush_lane.Goals as goal

pub returns-in-Request-clause-kept : goal.returns-in-Request-clause-kept
returns-in-Request-clause-kept c =
    let box : BoxView = record { node = c.self.inside.node; out = c.self.inside.out; departed = c.self.inside.departed.items; sends = c.self.inside.sends; log = c.self.inside.log; seat = c.self.inside.seat } in
    let kept : IsBox c.args.t.now box = subst (IsBox c.args.t.now) (sym c.self.view_is) c.requires.kept in
    let below : c.args.dst < box.seat.part.sizes.nodes = subst (λ (z : Sizes). c.args.dst < z.nodes) (sym kept.seat.part.machine) c.requires.dst in
    let inside : c.args.dst < box.out.sizes.nodes = subst (λ (z : Sizes). c.args.dst < z.nodes) (sym kept.machine) below in
    let front : slice_get (waiting box.out c.args.dst c.args.class) 0 ≡ Some c.in-Some.front = sym c.front.ensures.first ∙ c.in-Some.is in
    let one : c.flush.result ≡ 1 = search rules in
    let moved = c.flush.ensures.moved one in
    let new : BoxView = record { node = c.self.inside.node; out = c.flush.new.out; departed = (with_item c.self.inside.departed c.args.dst c.is_departure.result).items; sends = c.self.inside.sends; log = c.self.inside.log; seat = c.flush.new.self } in
    let P : Class → Bool → Type 0 = λ k f. (j : ℕ) → slice_index_or new.departed j false ≡ at_lane (slice_index_or box.departed j false) (put_lane [] c.args.dst k f) j Class.Request in
    let flags : P Class.Request c.is_departure.result = flags_request box.departed c.args.dst c.is_departure.result (subst (λ n. c.args.dst < n) (sym kept.places) below) in
    flushed_box c.args.t.now box new c.args.dst c.args.class c.in-Some.front kept c.cfg.ensures.kept inside front moved.0 moved.1 c.flush.ensures.seat refl refl refl (length-set box.departed c.args.dst c.is_departure.result)
    (subst (λ k. P k (is_departure (msg_content c.in-Some.front))) (sym c.in-Request.is) (subst (P Class.Request) c.is_departure.ensures flags))

pub returns-in-Reply-clause-kept : goal.returns-in-Reply-clause-kept
returns-in-Reply-clause-kept c =
    let box : BoxView = record { node = c.self.inside.node; out = c.self.inside.out; departed = c.self.inside.departed.items; sends = c.self.inside.sends; log = c.self.inside.log; seat = c.self.inside.seat } in
    let kept : IsBox c.args.t.now box = subst (IsBox c.args.t.now) (sym c.self.view_is) c.requires.kept in
    let below : c.args.dst < box.seat.part.sizes.nodes = subst (λ (z : Sizes). c.args.dst < z.nodes) (sym kept.seat.part.machine) c.requires.dst in
    let inside : c.args.dst < box.out.sizes.nodes = subst (λ (z : Sizes). c.args.dst < z.nodes) (sym kept.machine) below in
    let front : slice_get (waiting box.out c.args.dst c.args.class) 0 ≡ Some c.in-Some.front = sym c.front.ensures.first ∙ c.in-Some.is in
    let one : c.flush.result ≡ 1 = search rules in
    let moved = c.flush.ensures.moved one in
    let new : BoxView = record { node = c.self.inside.node; out = c.flush.new.out; departed = c.self.inside.departed.items; sends = c.self.inside.sends; log = c.self.inside.log; seat = c.flush.new.self } in
    let P : Class → Type 0 = λ k. (j : ℕ) → slice_index_or new.departed j false ≡ at_lane (slice_index_or box.departed j false) (put_lane [] c.args.dst k (is_departure (msg_content c.in-Some.front))) j Class.Request in
    flushed_box c.args.t.now box new c.args.dst c.args.class c.in-Some.front kept c.cfg.ensures.kept inside front moved.0 moved.1 c.flush.ensures.seat refl refl refl refl
    (subst P (sym c.in-Reply.is) (flags_reply box.departed c.args.dst (is_departure (msg_content c.in-Some.front))))

pub returns-then-flush-eq0-clause-kept : goal.returns-then-flush-eq0-clause-kept
returns-then-flush-eq0-clause-kept c =
    let box : BoxView = record { node = c.self.inside.node; out = c.self.inside.out; departed = c.self.inside.departed.items; sends = c.self.inside.sends; log = c.self.inside.log; seat = c.self.inside.seat } in
    let kept : IsBox c.args.t.now box = subst (IsBox c.args.t.now) (sym c.self.view_is) c.requires.kept in
    let none : c.flush.result ≡ 0 = search rules in
    let stayed = c.flush.ensures.stayed none in
    unflushed_box c.args.t.now box (record box { out = c.flush.new.out; seat = c.flush.new.self }) c.args.dst c.args.class kept stayed.0 c.flush.ensures.seat refl refl refl stayed.1 refl
