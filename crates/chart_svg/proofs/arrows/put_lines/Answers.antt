use Rattle.std.proofs.Common.{append_assoc}
use Rattle.std.proofs.lemmas.Result.{IfOk-equal}
use Rattle.chart_svg.proofs.arrows.put_lines.Goals as goal

pub returns : goal.returns
returns c =
    IfOk-equal _ _ _ _ c.put_letter_line.ensures
    (rw (c.in_ok-put_guide.ensures, c.place_of-head.ensures) (simp append_assoc))
