-- So many steps are made as the loop has seen, they run, and the chart is that of the run.
use Rattle.std.proofs.Common.{◌≡◌, ◌+◌, length, take}
use Rattle.op_model.specs.Run.Machines.{IsRunning}
use Rattle.commands.specs.Steps.{HasMade}
use Rattle.run_chart.specs.Charts.{IsChartOf}
use Rattle.chart_command.proofs.charting.replay_charted.Given as goal

abbrev pub invariant-loop-step : goal.invariant-loop-step
invariant-loop-step g l = record {
  counted : l.made ≡ l.step-index;
  made : HasMade (g.M.MachineFace.meaning l.initial.m) (take l.step-index l.steps) (g.M.MachineFace.meaning l.m);
  running : IsRunning (g.M.MachineFace.meaning l.m);
  told : IsChartOf (g.M.MachineFace.meaning l.m) l.chart;
  more : length l.chart.strokes ≡ length l.initial.chart.strokes + l.step-index;
}
