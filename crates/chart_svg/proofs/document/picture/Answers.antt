use Rattle.std.proofs.Common.{rules}
use Rattle.chart_svg.specs.Pictures.{picture_text}
use Rattle.chart_svg.proofs.document.picture.Goals as goal

pub returns : goal.returns
unfolding picture_text
returns c = search rules
