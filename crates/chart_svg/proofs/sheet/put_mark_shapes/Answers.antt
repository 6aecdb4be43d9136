use Rattle.chart_svg.specs.Sheet.{mark_shapes}
use Rattle.chart_svg.proofs.sheet.put_mark_shapes.Goals as goal

pub returns : goal.returns
unfolding mark_shapes
returns c = c.put_bytes.ensures.ok
