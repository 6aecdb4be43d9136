-- The directory of the test keeps its line and its bound.
use Rattle.std.proofs.Common.{◌≡◌, length}
use Rattle.part_rows.proofs.bit_lists.lists_are_bits.Given as goal

abbrev pub invariant-loop-row : goal.invariant-loop-row
invariant-loop-row g l = record { lines : length l.dir.lists ≡ 1; nodes : l.dir.nodes ≡ 64 }
