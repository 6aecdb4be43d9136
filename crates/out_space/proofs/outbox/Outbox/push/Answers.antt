use Rattle.std.proofs.Common.{[], ◌∷◌, ◌++◌, ap}
use Rattle.std.proofs.lemmas.Result.{on_ok_weaker}
use Rattle.out_space.proofs.Lists.{requests_changed, replies_changed}
use Rattle.out_space.proofs.outbox.Outbox.push.Goals as goal

pub returns-in-Request-clause-ok : goal.returns-in-Request-clause-ok
returns-in-Request-clause-ok c =
    let b = c.self.inside in
    let queue = c.index_mut in
    let call = c.push in
    rw (← c.in-Request.ensures) (on_ok_weaker call.result (λ ok. requests_changed (λ ms. ms ++ c.args.msg ∷ []) c.args.self.now b.cfg b.requests.items b.replies.items c.args.dst queue.result.now call.new.self c.self.view_is c.self.invariant.0.count c.requires queue.ensures.value (ap (λ q. q.messages) ok)) call.ensures.ok)

pub returns-in-Reply-clause-ok : goal.returns-in-Reply-clause-ok
returns-in-Reply-clause-ok c =
    let b = c.self.inside in
    let queue = c.index_mut-in-Reply in
    let call = c.push-in-Reply in
    rw (← c.in-Reply.ensures) (on_ok_weaker call.result (λ ok. replies_changed (λ ms. ms ++ c.args.msg ∷ []) c.args.self.now b.cfg b.requests.items b.replies.items c.args.dst queue.result.now call.new.self c.self.view_is c.self.invariant.1.count c.requires queue.ensures.value (ap (λ q. q.messages) ok)) call.ensures.ok)
