use Rattle.std.proofs.Common.{◌≡◌, sym, ap, ◌∙◌, subst, Err}
use Rattle.op_model.specs.Events.Node.{NodeOutcome, IssueNext, permit}
use Rattle.node_box.specs.Boxes.{LinkedNode, BoxView, outcome_at}
use Rattle.node_box.proofs.Issuing.{Tells, tells, only_these, refused}
use Rattle.node_box.proofs.open_box.OpenBox.begin.Goals as goal

pub unreachable-requires : goal.unreachable-requires
unreachable-requires c =
    let node : LinkedNode = c.args.self.now.node in
    let says : permit (outcome_at node IssueNext) ≡ Err c.in-Err.cause = sym (c.can_do.ensures ∙ ap (λ (x : BoxView). permit (outcome_at x.node IssueNext)) c.self.view_is) ∙ c.in-Err.is in
    let told : Tells {A = NodeOutcome} node (Err c.in-Err.cause) = subst (Tells node) (refused (outcome_at node IssueNext) c.in-Err.cause says) (tells node) in
    let not = c.in_default-cause in
    only_these node c.in-Err.cause told c.requires.no_hit not.not-NoOp not.not-Outstanding not.not-HeldPending not.not-HeldBudget not.not-Conflict
