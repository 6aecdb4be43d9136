use Rattle.std.proofs.Common.{drop, ap}
use Rattle.out_space.proofs.Lists.{requests_changed, replies_changed}
use Rattle.out_space.proofs.outbox.Outbox.pop.Goals as goal

pub returns-in-Request-clause-rest : goal.returns-in-Request-clause-rest
returns-in-Request-clause-rest c =
    let b = c.self.inside in
    let queue = c.index_mut in
    let call = c.pop in
    rw c.in-Request.is (requests_changed (λ ms. drop 1 ms) c.args.self.now b.cfg b.requests.items b.replies.items c.args.dst queue.result.now call.new.self c.self.view_is c.self.invariant.0.count c.requires queue.ensures.value (ap (λ q. q.messages) call.ensures.rest))

pub returns-in-Reply-clause-rest : goal.returns-in-Reply-clause-rest
returns-in-Reply-clause-rest c =
    let b = c.self.inside in
    let queue = c.index_mut-in-Reply in
    let call = c.pop-in-Reply in
    rw c.in-Reply.is (replies_changed (λ ms. drop 1 ms) c.args.self.now b.cfg b.requests.items b.replies.items c.args.dst queue.result.now call.new.self c.self.view_is c.self.invariant.1.count c.requires queue.ensures.value (ap (λ q. q.messages) call.ensures.rest))
