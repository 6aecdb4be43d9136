use Rattle.std.proofs.Common.{append_assoc}
use Rattle.std.proofs.lemmas.Result.{IfOk-equal}
use Rattle.chart_svg.specs.Pieces.{guide}
use Rattle.chart_svg.proofs.pieces.put_guide.Goals as goal

pub returns : goal.returns
unfolding guide
returns c =
    IfOk-equal _ _ _ _ c.put_bytes-3.ensures.ok
    (rw (c.in_ok-put_decimal-2.ensures.ok, c.in_ok-put_bytes-2.ensures.ok, c.in_ok-put_decimal.ensures.ok, c.in_ok-put_bytes.ensures.ok, c.y_of.ensures, c.x_of.ensures) (simp append_assoc))
