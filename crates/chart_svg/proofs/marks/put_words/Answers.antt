use Rattle.std.proofs.Common.{append_assoc}
use Rattle.std.proofs.lemmas.Result.{IfOk-equal}
use Rattle.chart_svg.proofs.marks.put_words.Goals as goal

pub returns : goal.returns
returns c =
    IfOk-equal _ _ _ _ c.put_stroke.ensures
    (rw (c.in_ok-put_letter.ensures, c.side_of.ensures, c.place_of-place.ensures) (simp append_assoc))
