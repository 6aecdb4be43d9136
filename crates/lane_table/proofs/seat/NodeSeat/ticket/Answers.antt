-- By the law of the ticket.
use Rattle.std.proofs.Common.{◌≡◌, ℕ, ◌<◌, ◌^◌, sym, ap, ◌∙◌, subst, refl, length, List}
use Rattle.std.specs.Prelude.{Option, Some, None, IsSome, IfSome}
use Rattle.atomic_table.specs.Table.{Me}
use Rattle.op_model.specs.declared.events.Event.{Event}
use Rattle.op_model.specs.Shares.{Linked}
use Rattle.op_model.specs.Parts.Part.{Part, logged}
use Rattle.op_model.specs.Parts.OwnStep.{own_step}
use Rattle.lane_table.specs.Steps.{ticketed}
use Rattle.lane_table.specs.Views.{SeatView, first_of}
use Rattle.lane_table.proofs.Keeping.{keeps_drawn}
use Rattle.lane_table.proofs.OneSeat.{one_part, one_part_is, IsSamePart, seat_after, ticketed_same}
use Rattle.lane_table.proofs.seat.NodeSeat.ticket.Goals as goal

some_of : (o : Option Part) → IsSome o → (q : Part) × (o ≡ Some q)
some_of None h = absurd (cc)
some_of (Some q) h = (q, refl)

told : (p : Part) (o : Option Part) (t : ℕ) (e : Event) (w : Part) → w ≡ ticketed p o t e → IfSome o (λ q. w ≡ logged q (record { ticket = t; event = e }))
told p None t e w is = tt
told p (Some q) t e w is = is

pub draw_of-requires-clause-keeps : goal.draw_of-requires-clause-keeps
draw_of-requires-clause-keeps c =
    let p : Part = first_of c.self.inside.seat.me in
    let is : p ≡ c.args.self.now.part = ap (λ (s : SeatView). s.part) c.self.view_is in
    let (q, goes) = some_of (own_step Linked c.args.self.now.part c.args.event) c.requires.goes in
    let P : Part → Type 0 = λ x. own_step Linked x c.args.event ≡ Some q in
    let Q : Part → Type 0 = λ x. length x.log < 2 ^ 48 in
    keeps_drawn c.args.t.now.setup p c.args.event q (subst P (sym is) goes) (subst Q (sym is) c.requires.few)

pub returns-clause-part : goal.returns-clause-part
returns-clause-part c =
    let p : Part = first_of c.self.inside.seat.me in
    let is : p ≡ c.args.self.now.part = ap (λ (s : SeatView). s.part) c.self.view_is in
    let w : Part = first_of c.draw_of.new.seat.me in
    let e : w ≡ ticketed p (own_step Linked p c.args.event) c.draw_of.result c.args.event = ap (λ (m : Me (Unit {0}) (List Part)). first_of m) c.draw_of.ensures.part in
    let P : Part → Type 0 = λ x. IfSome (own_step Linked x c.args.event) (λ q. w ≡ logged q (record { ticket = c.draw_of.result; event = c.args.event })) in
    subst P is (told p (own_step Linked p c.args.event) c.draw_of.result c.args.event w e)

pub invariant_of-self : goal.invariant_of-self
invariant_of-self c =
    let p : Part = first_of c.self.inside.seat.me in
    let x : Part = ticketed p (own_step Linked p c.args.event) c.draw_of.result c.args.event in
    let me = c.draw_of.new.seat.me in (
      one_part me x c.draw_of.ensures.part,
      ap (λ (q : Part). q.number) (one_part_is me x c.draw_of.ensures.part) ∙ ((ticketed_same p (own_step Linked p c.args.event) c.draw_of.result c.args.event refl).0 ∙ c.self.invariant.1),
    )

pub returns-clause-seat : goal.returns-clause-seat
returns-clause-seat c =
    let p : Part = first_of c.self.inside.seat.me in
    let x : Part = ticketed p (own_step Linked p c.args.event) c.draw_of.result c.args.event in
    let me = c.draw_of.new.seat.me in
    let P : Part → Type 0 = λ q. IsSamePart q (first_of me) in
    let is : p ≡ c.args.self.now.part = ap (λ (s : SeatView). s.part) c.self.view_is in
    seat_after c.args.t.now c.args.self.now (record { id = c.draw_of.new.seat.table_id; part = first_of me }) c.requires.seat c.draw_of.ensures.table
    (subst P is (let Q : Part → Type 0 = λ q. IsSamePart p q in subst Q (sym (one_part_is me x c.draw_of.ensures.part)) (ticketed_same p (own_step Linked p c.args.event) c.draw_of.result c.args.event refl)))
