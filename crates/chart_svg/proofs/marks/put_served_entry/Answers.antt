use Rattle.std.proofs.Common.{append_assoc}
use Rattle.std.proofs.lemmas.Result.{IfOk-equal}
use Rattle.chart_svg.specs.Pictures.{served_entry}
use Rattle.chart_svg.proofs.marks.put_served_entry.Goals as goal

pub returns : goal.returns
unfolding served_entry
returns c =
    IfOk-equal _ _ _ _ c.put_closing.ensures
    (rw (c.in_ok-put_entry.ensures, c.in_ok-put_opening.ensures, c.in_ok-put_mark.ensures, c.beside-x.ensures, c.side_name.ensures, c.above.ensures) (simp append_assoc))
