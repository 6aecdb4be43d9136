use Rattle.std.proofs.Common.{◌≡◌, ◌≤◌, take}
use Rattle.std.specs.List.{count_by}
use Rattle.chart_svg.specs.Places.{is_before}
use Rattle.chart_svg.proofs.places.row_of.Given as goal

abbrev pub invariant-loop-stroke : goal.invariant-loop-stroke
invariant-loop-stroke l = record {
  counted : l.row ≡ count_by (is_before l.chosen l.number) (take l.stroke-index l.strokes);
  few : l.row ≤ l.stroke-index;
}
