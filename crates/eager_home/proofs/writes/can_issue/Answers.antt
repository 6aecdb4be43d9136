-- The causes are those of the delayed core.
use Rattle.std.proofs.Common.{sym, ap, ◌∙◌}
use Rattle.op_model.specs.Events.Node.{IssueNext, local, permit}
use Rattle.node_share.specs.Parts.{share_of}
use Rattle.eager_home.proofs.Written.{permit-is}
use Rattle.eager_home.proofs.writes.can_issue.Goals as goal

pub returns : goal.returns
returns g c =
    let home = c.args.home.now in
    let share = share_of c.args.proc.now c.args.cache.now.copies home.headers in
    c.can_issue.ensures ∙ ap (λ k. permit (local k home.sizes c.args.node c.args.proc.now.program share IssueNext)) c.requires.unlinked ∙ sym (permit-is home.sizes c.args.node c.args.proc.now.program share)
