use Rattle.std.proofs.Common.{append_assoc}
use Rattle.std.proofs.lemmas.Result.{IfOk-equal}
use Rattle.chart_svg.specs.Pictures.{number_words}
use Rattle.chart_svg.proofs.marks.put_number.Goals as goal

pub returns : goal.returns
unfolding number_words
returns c =
    IfOk-equal _ _ _ _ c.put_closing.ensures
    (rw (c.in_ok-put_decimal.ensures.ok, c.in_ok-put_opening.ensures, c.on.ensures) (simp append_assoc))
