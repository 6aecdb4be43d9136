use Rattle.chart_svg.specs.Sheet.{line_legend}
use Rattle.chart_svg.proofs.sheet.put_line_legend.Goals as goal

pub returns : goal.returns
unfolding line_legend
returns c = c.put_bytes.ensures.ok
