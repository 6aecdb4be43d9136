use Rattle.std.proofs.Common.{◌≡◌, ◌≤◌, take}
use Rattle.std.specs.List.{count_by}
use Rattle.chart_svg.specs.Places.{is_shown}
use Rattle.chart_svg.proofs.places.count_rows.Given as goal

abbrev pub invariant-loop-stroke : goal.invariant-loop-stroke
invariant-loop-stroke l = record {
  counted : l.rows ≡ count_by (is_shown l.chosen) (take l.stroke-index l.strokes);
  few : l.rows ≤ l.stroke-index;
}
