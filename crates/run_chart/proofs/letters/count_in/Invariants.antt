use Rattle.std.proofs.Common.{◌≡◌, ◌≤◌, length, take}
use Rattle.run_chart.specs.Charts.{in_lane}
use Rattle.run_chart.proofs.letters.count_in.Given as goal

abbrev pub invariant-loop-letter : goal.invariant-loop-letter
invariant-loop-letter l = record {
  counted : l.count ≡ length (in_lane (take l.letter-index l.letters) l.src l.dst l.class);
  few : l.count ≤ l.letter-index;
}
