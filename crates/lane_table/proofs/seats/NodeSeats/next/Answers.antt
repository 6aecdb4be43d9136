-- The first part is cut off.
use Rattle.std.proofs.Common.{◌≡◌, ◌<◌, ◌∙◌, List, ◌∷◌, length, sym, ap, arith}
use Rattle.atomic_table.specs.Table.{Me}
use Rattle.op_model.specs.Parts.Part.{Part}
use Rattle.lane_table.specs.Views.{SeatsView, first_of}
use Rattle.lane_table.proofs.Seating.{cut}
use Rattle.lane_table.proofs.OneSeat.{cut_parts, first_seat, rest_seats}
use Rattle.lane_table.proofs.seats.NodeSeats.next.Goals as goal

pub split_seat-seat-requires : goal.split_seat-seat-requires
split_seat-seat-requires c =
    let w = c.self.inside.seat.me.0 in
    let some_part : 0 < length w = let h = c.self.invariant.0 in omega arith in
    let words = c.t.invariant.1 in (
      ap (λ s. s.id) c.self.view_is ∙ (c.requires.id ∙ sym (ap (λ t. t.id) c.t.view_is)),
      omega arith,
      cut c.t.inside.table.shared.key c.self.inside.seat.id w some_part,
    )

pub returns-clause-seat : goal.returns-clause-seat
returns-clause-seat c =
    let w = c.self.inside.seat.me.0 in
    let some_part : 0 < length w = let h = c.self.invariant.0 in omega arith in
    let e = c.split_seat-seat.ensures in
    let parts : c.args.self.now.parts ≡ first_of c.split_seat-seat.result.me ∷ c.split_seat-seat.new.seat.me.0 =
    sym (ap (λ (s : SeatsView). s.parts) c.self.view_is) ∙ cut_parts w c.split_seat-seat.new.seat.me c.split_seat-seat.result.me some_part (ap (λ (m : Me (Unit {0}) (List Part)). m.0) e.2) e.4 in (
      parts,
      first_seat c.args.t.now c.args.self.now (record { id = c.split_seat-seat.result.table_id; part = first_of c.split_seat-seat.result.me }) c.split_seat-seat.new.seat.me.0 c.requires parts
          (e.3 ∙ (ap (λ (s : SeatsView). s.id) c.self.view_is ∙ c.requires.id)),
    )

pub returns-clause-rest : goal.returns-clause-rest
returns-clause-rest c =
    let w = c.self.inside.seat.me.0 in
    let some_part : 0 < length w = let h = c.self.invariant.0 in omega arith in
    let e = c.split_seat-seat.ensures in
    let parts : c.args.self.now.parts ≡ first_of c.split_seat-seat.result.me ∷ c.split_seat-seat.new.seat.me.0 =
    sym (ap (λ (s : SeatsView). s.parts) c.self.view_is) ∙ cut_parts w c.split_seat-seat.new.seat.me c.split_seat-seat.result.me some_part (ap (λ (m : Me (Unit {0}) (List Part)). m.0) e.2) e.4 in
    rest_seats c.args.t.now c.args.self.now (record { id = c.split_seat-seat.new.seat.table_id; parts = c.split_seat-seat.new.seat.me.0 }) (first_of c.split_seat-seat.result.me) c.requires parts
    (e.0 ∙ (ap (λ (s : SeatsView). s.id) c.self.view_is ∙ c.requires.id))
