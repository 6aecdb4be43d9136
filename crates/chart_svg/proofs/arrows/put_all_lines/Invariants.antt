use Rattle.std.proofs.Common.{◌≡◌, ◌++◌, take, filter}
use Rattle.std.specs.List.{flat_map}
use Rattle.chart_svg.specs.Places.{is_shown}
use Rattle.chart_svg.specs.Pictures.{stroke_lines}
use Rattle.chart_svg.proofs.arrows.put_all_lines.Given as goal

abbrev pub invariant-loop-stroke : goal.invariant-loop-stroke
invariant-loop-stroke l = l.out.items ≡ l.fn.out.items ++ flat_map (stroke_lines l.chosen l.strokes) (filter (is_shown l.chosen) (take l.stroke-index l.strokes))
