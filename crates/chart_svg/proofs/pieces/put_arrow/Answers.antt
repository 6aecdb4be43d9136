use Rattle.std.proofs.Common.{append_assoc}
use Rattle.std.proofs.lemmas.Result.{IfOk-equal}
use Rattle.chart_svg.specs.Pieces.{arrow}
use Rattle.chart_svg.proofs.pieces.put_arrow.Goals as goal

pub returns : goal.returns
unfolding arrow
returns c =
    IfOk-equal _ _ _ _ c.put_bytes-7.ensures.ok
    (rw (c.in_ok-put_decimal-4.ensures.ok, c.in_ok-put_bytes-6.ensures.ok, c.in_ok-put_decimal-3.ensures.ok, c.in_ok-put_bytes-5.ensures.ok, c.in_ok-put_decimal-2.ensures.ok, c.in_ok-put_bytes-4.ensures.ok, c.in_ok-put_decimal.ensures.ok, c.in_ok-put_bytes-3.ensures.ok, c.in_ok-put_bytes-2.ensures.ok, c.in_ok-put_bytes.ensures.ok, c.x_of.ensures, c.y_of.ensures, c.x_of-2.ensures, c.y_of-2.ensures) (simp append_assoc))
