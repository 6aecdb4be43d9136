use Rattle.chart_svg.specs.Sheet.{mark_legend}
use Rattle.chart_svg.proofs.sheet.put_mark_legend.Goals as goal

pub returns : goal.returns
unfolding mark_legend
returns c = c.put_bytes.ensures.ok
