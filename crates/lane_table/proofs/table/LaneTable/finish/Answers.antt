-- The seat that has all parts sees the rule at the end.
use Rattle.std.proofs.Common.{◌≡◌, ◌<◌, List, [], ◌∷◌, ap, ◌∙◌, subst, arith, length, drop, get_or}
use Rattle.std.specs.Prelude.{map}
use Rattle.std.proofs.lemmas.List.{length-map}
use Rattle.std.specs.Slots.{slots_items}
use Rattle.atomic_table.specs.Table.{Final, Seen}
use Rattle.line_map.specs.Sizes.{Sizes}
use Rattle.op_model.specs.Parts.Part.{Part}
use Rattle.lane_table.specs.Setups.{Setup}
use Rattle.lane_table.specs.Rule.{IsKept}
use Rattle.lane_table.specs.Views.{SeatView, TableView, seat_part}
use Rattle.lane_table.proofs.Ending.{ended}
use Rattle.lane_table.proofs.table.LaneTable.finish.Goals as goal

front : (x : SeatView) (xs rest : List SeatView) → 0 < length xs → x ≡ get_or xs 0 x → rest ≡ drop 1 xs → seat_part x ∷ map seat_part rest ≡ map seat_part xs
front x [] rest some is e = absurd (omega arith)
front x (y ∷ ys) rest some is e = λ k. seat_part (is k) ∷ map seat_part (e k)

pub returns : goal.returns
returns c =
    let v : List Part = map seat_part c.args.seats.items in
    let some : 0 < length c.args.seats.items =
    let n = c.nodes-nodes.ensures.small in let v = c.nodes-nodes.ensures.value in let count = c.requires.count in
    let cfg = c.self.invariant.0 ∙ ap (λ (t : TableView). t.setup.sizes) c.self.view_is in
    let nodes = ap (λ (s : Sizes). s.nodes) cfg in omega arith in
    let same : c.gathered-all.result.me ≡ (v, []) = c.gathered-all.ensures.view ∙ ap (λ l. (l, [])) (front c.remove-first.result c.args.seats.items c.remove-first.new.self.items some c.remove-first.ensures.value c.remove-first.ensures.items) in
    let setup : c.self.inside.table.shared.key ≡ c.args.self.setup = ap (λ (t : TableView). t.setup) c.self.view_is in
    let P : Setup × List Part → Type 0 = λ x. Final {S = Unit {0}} {V = List Part} (Seen (IsKept x.0) c.gathered-all.result.id x.1) (slots_items c.close_with-closed.result.words) (slots_items c.close_with-closed.result.slots) in
    ended c.args.self.setup v (slots_items c.close_with-closed.result.words) (slots_items c.close_with-closed.result.slots) c.gathered-all.result.id c.word-tickets.result
    (length-map {A = SeatView} {B = Part} c.args.seats.items seat_part ∙ c.requires.count)
    (subst P (λ k. (setup k, (same k).0)) c.close_with-closed.ensures.values.2) c.word-tickets.ensures
