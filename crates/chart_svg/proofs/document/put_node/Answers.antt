use Rattle.std.proofs.Common.{append_assoc}
use Rattle.std.proofs.lemmas.Result.{IfOk-equal}
use Rattle.chart_svg.proofs.document.put_node.Goals as goal

pub returns : goal.returns
returns c =
    IfOk-equal _ _ _ _ c.put_lifeline.ensures
    (rw (c.in_ok-put_node_name.ensures, c.x_of.ensures, c.y_of.ensures) (simp append_assoc))
