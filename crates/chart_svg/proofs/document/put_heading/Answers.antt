use Rattle.std.proofs.Common.{append_assoc}
use Rattle.std.proofs.lemmas.Result.{IfOk-equal}
use Rattle.chart_svg.specs.Pictures.{heading}
use Rattle.chart_svg.proofs.document.put_heading.Goals as goal

pub returns : goal.returns
unfolding heading
returns c =
    IfOk-equal _ _ _ _ c.put_closing.ensures
    (rw (c.in_ok-put_chosen.ensures, c.in_ok-put_bytes.ensures.ok, c.in_ok-put_opening.ensures) (simp append_assoc))
