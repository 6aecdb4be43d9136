use Rattle.std.proofs.Common.{◌≡◌, ◌++◌, map, drop, take}
use Rattle.chart_strokes.specs.Strokes.{letter_from}
use Rattle.run_chart.proofs.posting.post.Given as goal

abbrev pub invariant-loop-i : goal.invariant-loop-i
invariant-loop-i g l =
    let m = g.M.Reported.meaning l.m in
    l.letters.items ≡ l.fn.letters.items ++ map (letter_from l.number l.src l.dst) (drop l.known (take l.i (m.past.state.lane l.src l.dst l.class)))
