use Rattle.out_space.proofs.Lists.{requests_at, replies_at, empty_first}
use Rattle.out_space.proofs.outbox.Outbox.front.Goals as goal

pub returns-in-Request-clause-empty : goal.returns-in-Request-clause-empty
returns-in-Request-clause-empty c =
    let b = c.self.inside in
    let queue = c.index in
    let is = requests_at c.args.self.now b.cfg b.requests.items b.replies.items c.args.dst queue.result.now c.self.view_is c.self.invariant.0.count c.requires queue.ensures in
    rw (c.in-Request.is, is, c.front.ensures) (empty_first queue.result.now.messages)

pub returns-in-Reply-clause-empty : goal.returns-in-Reply-clause-empty
returns-in-Reply-clause-empty c =
    let b = c.self.inside in
    let queue = c.index-in-Reply in
    let is = replies_at c.args.self.now b.cfg b.requests.items b.replies.items c.args.dst queue.result.now c.self.view_is c.self.invariant.1.count c.requires queue.ensures in
    rw (c.in-Reply.is, is, c.front-in-Reply.ensures) (empty_first queue.result.now.messages)
