use Rattle.std.proofs.Common.{append_assoc}
use Rattle.std.proofs.lemmas.Result.{IfOk-equal}
use Rattle.chart_svg.specs.Pictures.{calling_words}
use Rattle.chart_svg.proofs.marks.put_calling_words.Goals as goal

pub returns : goal.returns
unfolding calling_words
returns c =
    IfOk-equal _ _ _ _ c.put_closing.ensures
    (rw (c.in_ok-put_decimal.ensures.ok, c.in_ok-put_bytes.ensures.ok, c.in_ok-put_opening.ensures, c.beside-x.ensures, c.side_name.ensures, c.below.ensures, c.from.ensures) (simp append_assoc))
