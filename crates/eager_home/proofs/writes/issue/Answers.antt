-- What isn't such a write is begun as in the delayed core.
use Rattle.std.proofs.Common.{◌≡◌, [], Err, sym, ap, ◌∙◌, subst}
use Rattle.std.specs.Prelude.{IfOk, IfErr}
use Rattle.op_model.specs.Shares.{header_in}
use Rattle.op_model.specs.Events.Node.{IssueNext, NodeOutcome}
use Rattle.op_model.specs.Events.Node as delayed
use Rattle.eager_model.specs.Node.{local}
use Rattle.node_share.specs.Parts.{share_of}
use Rattle.node_share.specs.Effects.{Acts}
use Rattle.eager_home.proofs.Written.{as-begun}
use Rattle.eager_home.proofs.writes.issue.Goals as goal

pub returns-in_default-clause-acts : goal.returns-in_default-clause-acts
unfolding header_in
returns-in_default-clause-acts g c =
    let home = c.args.home.now in
    let proc = c.args.proc.now in
    let share = share_of proc c.args.cache.now.copies home.headers in
    let new = share_of c.issue.new.proc c.issue.new.cache.copies c.issue.new.home.headers in
    let same : delayed.local home.charge home.sizes c.args.node proc.program share IssueNext ≡ local home.sizes c.args.node proc.program share IssueNext =
    ap (λ k. delayed.local k home.sizes c.args.node proc.program share IssueNext) c.requires.unlinked ∙ sym (as-begun home.sizes c.args.node proc.program share (c.shared_write.ensures.none c.in_default.is)) in
    subst (λ act. IfOk c.issue.result (λ effect. Acts c.args.node proc.program proc.place [] act new c.args.out.now c.issue.new.out effect)) same c.issue.ensures.acts

pub returns-in_default-clause-refused : goal.returns-in_default-clause-refused
unfolding header_in
returns-in_default-clause-refused g c =
    let home = c.args.home.now in
    let proc = c.args.proc.now in
    let share = share_of proc c.args.cache.now.copies home.headers in
    let same : delayed.local home.charge home.sizes c.args.node proc.program share IssueNext ≡ local home.sizes c.args.node proc.program share IssueNext =
    ap (λ k. delayed.local k home.sizes c.args.node proc.program share IssueNext) c.requires.unlinked ∙ sym (as-begun home.sizes c.args.node proc.program share (c.shared_write.ensures.none c.in_default.is)) in
    subst (λ act. IfErr c.issue.result (λ cause. act ≡ Err cause)) same c.issue.ensures.refused
