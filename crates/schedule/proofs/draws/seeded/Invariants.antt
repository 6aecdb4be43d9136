use Rattle.std.proofs.Common.{◌≡◌, ◌+◌, length}
use Rattle.schedule.proofs.Drawing.{IsDrawing}
use Rattle.schedule.proofs.draws.seeded.Given as goal

abbrev pub invariant-loop : goal.invariant-loop
invariant-loop g l =
    let meaning = g.M.MachineFace.meaning in
    record {
      way : IsDrawing (g.F.Choice.answers l.picker) l.seed (meaning l.fn.m) (meaning l.m) l.counter l.generator;
      counted : l.steps + length (meaning l.fn.m).events ≡ l.fn.steps + length (meaning l.m).events;
    }
