use Rattle.std.proofs.Common.{◌≡◌, drop}
use Rattle.chart_strokes.specs.Strokes.{operation_entry}
use Rattle.run_chart.proofs.entries.entry_at.Given as goal

abbrev pub invariant-loop-entry : goal.invariant-loop-entry
invariant-loop-entry l = operation_entry l.node l.place (drop l.entry-index l.entries) ≡ operation_entry l.node l.place l.entries
