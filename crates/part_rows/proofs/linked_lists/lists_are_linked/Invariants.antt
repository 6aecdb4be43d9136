use Rattle.std.proofs.Common.{◌≡◌, length}
use Rattle.part_rows.proofs.linked_lists.lists_are_linked.Given as goal

abbrev pub invariant-loop-row : goal.invariant-loop-row
invariant-loop-row g l = length l.dir.sets ≡ 1
