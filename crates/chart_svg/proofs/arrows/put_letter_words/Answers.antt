use Rattle.std.proofs.Common.{append_assoc}
use Rattle.std.proofs.lemmas.Result.{IfOk-equal}
use Rattle.chart_svg.specs.Pictures.{letter_words}
use Rattle.chart_svg.proofs.arrows.put_letter_words.Goals as goal

pub returns : goal.returns
unfolding letter_words
returns c =
    IfOk-equal _ _ _ _ c.put_bytes-2.ensures.ok
    (rw (c.in_ok-put_decimal.ensures.ok, c.in_ok-put_bytes.ensures.ok, c.name_part.ensures, c.from.ensures, c.line.ensures, c.cause_part.ensures) (simp append_assoc))
