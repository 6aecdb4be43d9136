use Rattle.chart_svg.specs.Sheet.{arrow_heads}
use Rattle.chart_svg.proofs.sheet.put_arrow_heads.Goals as goal

pub returns : goal.returns
unfolding arrow_heads
returns c = c.put_bytes.ensures.ok
