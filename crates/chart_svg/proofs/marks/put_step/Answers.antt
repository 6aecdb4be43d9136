use Rattle.std.proofs.Common.{append_assoc}
use Rattle.std.proofs.lemmas.Result.{IfOk-equal}
use Rattle.chart_svg.specs.Pictures.{step_label}
use Rattle.chart_svg.proofs.marks.put_step.Goals as goal

pub returns : goal.returns
unfolding step_label
returns c =
    IfOk-equal _ _ _ _ c.put_closing.ensures
    (rw (c.in_ok-put_steps.ensures, c.in_ok-put_opening.ensures, c.on.ensures) (simp append_assoc))
