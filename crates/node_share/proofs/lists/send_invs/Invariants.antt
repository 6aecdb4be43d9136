-- What has been sent, with an Inv to each node that is left, is what is to be sent.
use Rattle.std.proofs.Common.{◌≡◌, length}
use Rattle.op_model.specs.Lines.{to_each, to_listed}
use Rattle.op_model.specs.Events.Node.{messages}
use Rattle.dir_header.specs.HomeSides.{header_at}
use Rattle.node_share.specs.Parts.{sent}
use Rattle.node_share.proofs.lists.send_invs.Given as goal

abbrev pub invariant-loop-node : goal.invariant-loop-node
invariant-loop-node g l = sent l.out (messages l.line (to_each l.left)) ≡ sent l.fn.out (messages l.line (to_listed (header_at l.fn.home l.line).list))

abbrev pub decreases-loop-node : goal.decreases-loop-node
decreases-loop-node g l = length l.left
