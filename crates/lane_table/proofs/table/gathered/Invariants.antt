use Rattle.std.proofs.Common.{◌≡◌, [], ◌∷◌, map}
use Rattle.std.specs.Prelude.{All}
use Rattle.lane_table.specs.Views.{seat_part}
use Rattle.lane_table.proofs.table.gathered.Given as goal

abbrev pub invariant-loop-other : goal.invariant-loop-other
invariant-loop-other l =
    (goal.iterator-loop-other).can_next l.other-iterator
    × (goal.iterator-loop-other).is_finite l.other-iterator × (l.all.table_id ≡ l.t.id) × (l.all.me ≡ (l.fn.first.part ∷ map seat_part l.yielded, []))
    × All (λ s. s.id ≡ l.t.id) l.other-iterator.rest.items
