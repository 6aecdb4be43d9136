use Rattle.std.proofs.Common.{◌≡◌, true, take}
use Rattle.time_view.specs.States.{are_zeros}
use Rattle.time_view.proofs.lines.is_zeros.Given as goal

abbrev pub invariant-loop-i : goal.invariant-loop-i
invariant-loop-i l = are_zeros (take l.i l.body) ≡ true
