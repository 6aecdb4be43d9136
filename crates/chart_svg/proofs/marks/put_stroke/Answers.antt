use Rattle.std.proofs.Common.{append_assoc}
use Rattle.std.proofs.lemmas.Result.{IfOk-equal}
use Rattle.chart_svg.specs.Pictures.{stroke_at}
use Rattle.chart_svg.proofs.marks.put_stroke.Goals as goal

pub returns : goal.returns
unfolding stroke_at
returns c =
    IfOk-equal _ _ _ _ c.put_calling.ensures
    (rw (c.in_ok-put_completed.ensures, c.in_ok-put_served.ensures, c.in_ok-put_mark.ensures, c.in_ok-put_step.ensures, c.in_ok-put_number.ensures, c.mark_name.ensures, c.called_in.ensures) (simp append_assoc))
