use Rattle.std.proofs.Common.{append_assoc}
use Rattle.std.proofs.lemmas.Result.{IfOk-equal}
use Rattle.chart_svg.specs.Pictures.{letter_label}
use Rattle.chart_svg.proofs.arrows.put_letter_label.Goals as goal

pub returns : goal.returns
unfolding letter_label
returns c =
    IfOk-equal _ _ _ _ c.put_closing.ensures
    (rw (c.in_ok-put_letter_words.ensures, c.in_ok-put_opening.ensures, c.near_head-x.ensures, c.near_head-y.ensures, c.gap-columns.ensures, c.x_of.ensures, c.x_of-2.ensures, c.on.ensures, c.on-2.ensures) (simp append_assoc))
