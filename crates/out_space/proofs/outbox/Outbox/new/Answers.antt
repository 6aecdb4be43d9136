use Rattle.out_space.proofs.Lists.{lists_of-empty}
use Rattle.out_space.proofs.outbox.Outbox.new.Goals as goal

pub returns : goal.returns
returns c =
    rw (c.in_ok-queues.ensures, c.in_ok-queues-2.ensures, c.nodes.ensures.value, c.nodes-2.ensures.value)
    (rw (lists_of-empty c.args.cfg.nodes c.request_bound.result, lists_of-empty c.args.cfg.nodes c.reply_bound.result))
