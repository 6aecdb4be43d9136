use Rattle.std.proofs.Common.{append_assoc}
use Rattle.std.proofs.lemmas.Result.{IfOk-equal}
use Rattle.chart_svg.specs.Pictures.{legend}
use Rattle.chart_svg.proofs.document.put_legend.Goals as goal

pub returns : goal.returns
unfolding legend
returns c =
    IfOk-equal _ _ _ _ c.put_entry_legend.ensures
    (rw (c.in_ok-put_mark_legend.ensures, c.in_ok-put_line_legend.ensures) (simp append_assoc))
