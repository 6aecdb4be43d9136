-- By the law of one join: the seat has the parts of those so far.
use Rattle.std.proofs.Common.{◌≡◌, List, [], ◌∷◌, sym, ap, ◌∙◌, subst, arith}
use Rattle.std.specs.Prelude.{All, map, suc, ◌++◌}
use Rattle.std.proofs.lemmas.List.{map-append}
use Rattle.atomic_table.specs.Table.{Me}
use Rattle.atomic_table.specs.Seated.{TableId}
use Rattle.op_model.specs.Parts.Part.{Part}
use Rattle.lane_table.specs.Views.{SeatView, TableView, first_of, seat_part}
use Rattle.lane_table.proofs.Seating.{join_both}
use Rattle.lane_table.proofs.table.gathered.Goals as goal

first_one : (id : TableId) (x : SeatView) (xs ys : List SeatView) → All (λ s. s.id ≡ id) ys → ys ≡ x ∷ xs → x.id ≡ id
first_one id x xs ys h e = let P : List SeatView → Type 0 = λ l. All (λ s. s.id ≡ id) l in subst P e h 0 x (omega arith)

pub join_seat-requires : goal.join_seat-requires
join_seat-requires c =
    let inv = c.loop-other.invariant in
    let here = sym (ap (λ (t : TableView). t.id) c.t.view_is) in
    let theirs = first_one c.args.t.now.id c.in-Some.other c.next.new.self.rest.items c.loop-other.other-iterator.rest.items inv.4 c.in-Some.ensures.steps.0 in
    let words = c.t.invariant.1 in (
      inv.2 ∙ here,
      ap (λ (s : SeatView). s.id) c.other.view_is ∙ (theirs ∙ here),
      ap (λ (m : Me (Unit {0}) (List Part)). m.1) c.other.invariant.0,
      omega arith,
      join_both c.t.inside.table.shared.key c.loop-other.all.id c.loop-other.all.me.0 c.other.inside.seat.id c.other.inside.seat.me.0,
    )

rest_too : (id : TableId) (x : SeatView) (xs ys : List SeatView) → All (λ s. s.id ≡ id) ys → ys ≡ x ∷ xs → All (λ s. s.id ≡ id) xs
rest_too id x xs ys h e = let P : List SeatView → Type 0 = λ l. All (λ s. s.id ≡ id) l in let all = subst P e h in λ k d lt. all (suc k) d (omega arith)

one_more : (p : Part) (done : List SeatView) (x : SeatView) (me old theirs : Me (Unit {0}) (List Part)) → old ≡ (p ∷ map seat_part done, []) → theirs ≡ (first_of theirs ∷ [], []) → first_of theirs ≡ x.part
    → me ≡ (old.0 ++ theirs.0, old.1) → me ≡ (p ∷ map seat_part (done ++ x ∷ []), [])
one_more p done x me old theirs is one same e =
    let last : theirs.0 ≡ x.part ∷ [] = ap (λ (m : Me (Unit {0}) (List Part)). m.0) one ∙ ap (λ q. q ∷ []) same in
    e ∙ ((λ k. ((is k).0 ++ last k, (is k).1)) ∙ ap (λ l. (p ∷ l, [])) (sym (map-append seat_part done (x ∷ []))))

pub loop-other-preserved : goal.loop-other-preserved
loop-other-preserved c =
    let inv = c.loop-other.invariant in
    let e = c.join_seat.ensures in (
      tt,
      tt,
      e.0 ∙ inv.2,
      one_more c.args.first.part c.loop-other.yielded c.in-Some.other c.join_seat.new.seat.me c.loop-other.all.me c.other.inside.seat.me inv.3 c.other.invariant.0 (ap (λ (s : SeatView). s.part) c.other.view_is) e.2,
      rest_too c.args.t.now.id c.in-Some.other c.next.new.self.rest.items c.loop-other.other-iterator.rest.items inv.4 c.in-Some.ensures.steps.0,
    )
