use Rattle.std.proofs.Common.{append_assoc}
use Rattle.std.proofs.lemmas.Result.{IfOk-equal}
use Rattle.chart_svg.specs.Pieces.{mark}
use Rattle.chart_svg.proofs.pieces.put_mark.Goals as goal

pub returns : goal.returns
unfolding mark
returns c =
    IfOk-equal _ _ _ _ c.put_bytes-5.ensures.ok
    (rw (c.in_ok-put_decimal-2.ensures.ok, c.in_ok-put_bytes-4.ensures.ok, c.in_ok-put_decimal.ensures.ok, c.in_ok-put_bytes-3.ensures.ok, c.in_ok-put_bytes-2.ensures.ok, c.in_ok-put_bytes.ensures.ok, c.x_of.ensures, c.y_of.ensures) (simp append_assoc))
