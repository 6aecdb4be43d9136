use Rattle.chart_svg.specs.Sheet.{styles}
use Rattle.chart_svg.proofs.sheet.put_styles.Goals as goal

pub returns : goal.returns
unfolding styles
returns c = c.put_bytes.ensures.ok
