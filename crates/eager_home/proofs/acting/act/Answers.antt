-- No list holds a link, so that no line is called in for one.
use Rattle.std.proofs.Common.{ap, ◌∙◌}
use Rattle.eager_model.specs.Node.{local}
use Rattle.magic_node.specs.Nodes.{node_share, input_of}
use Rattle.eager_home.proofs.Alone.{no-links}
use Rattle.eager_home.proofs.acting.act.Goals as goal

pub returns-in-Reclaim-clause-refused : goal.returns-in-Reclaim-clause-refused
returns-in-Reclaim-clause-refused g c =
    let home = c.args.home.now in
    let share = node_share c.args.proc.now c.args.cache.now home in
    ap (λ e. local home.sizes c.args.number c.args.proc.now.program share (input_of e c.args.room)) c.in-Reclaim.is ∙ no-links home.sizes c.args.number c.args.proc.now.program share c.in-Reclaim.line
