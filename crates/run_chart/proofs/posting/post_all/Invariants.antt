use Rattle.run_chart.specs.Lettered.{AreOfClass}
use Rattle.run_chart.proofs.Posted.{AreBelow}
use Rattle.run_chart.proofs.posting.post_all.Given as goal

abbrev pub invariant-loop-dst : goal.invariant-loop-dst
invariant-loop-dst g l =
    let m = g.M.Reported.meaning l.m in
    AreOfClass l.src l.dst m.past.state.lane → AreBelow l.number l.src l.dst m.past.state.lane l.fn.letters.items l.letters.items
