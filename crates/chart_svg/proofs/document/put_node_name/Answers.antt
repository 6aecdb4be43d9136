use Rattle.std.proofs.Common.{append_assoc}
use Rattle.std.proofs.lemmas.Result.{IfOk-equal}
use Rattle.chart_svg.specs.Pictures.{node_name}
use Rattle.chart_svg.proofs.document.put_node_name.Goals as goal

pub returns : goal.returns
unfolding node_name
returns c =
    IfOk-equal _ _ _ _ c.put_closing.ensures
    (rw (c.in_ok-put_decimal.ensures.ok, c.in_ok-put_bytes.ensures.ok, c.in_ok-put_opening.ensures, c.x_of.ensures, c.from.ensures) (simp append_assoc))
