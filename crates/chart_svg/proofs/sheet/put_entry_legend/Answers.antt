use Rattle.chart_svg.specs.Sheet.{entry_legend}
use Rattle.chart_svg.proofs.sheet.put_entry_legend.Goals as goal

pub returns : goal.returns
unfolding entry_legend
returns c = c.put_bytes.ensures.ok
