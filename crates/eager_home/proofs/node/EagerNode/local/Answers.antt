-- The parts after the act are a node's again, and what is sent fits the machine.
use Rattle.std.proofs.Common.{◌≢◌, ◌+◌, ℕ, [], subst, sym, ap}
use Rattle.std.specs.Prelude.{IfOk}
use Rattle.std.proofs.lemmas.Result.{IfOk-weaker}
use Rattle.message_range.specs.Fitting.{IsSentOf}
use Rattle.magic_node.specs.Nodes.{HasSent, input_of, node_share}
use Rattle.magic_node.proofs.Public.{for-other, input-of}
use Rattle.eager_home.specs.Aged.{AgedActs, AreWithin}
use Rattle.eager_home.specs.Ages.{ages_of}
use Rattle.eager_home.specs.Views.{RiseWithin, ages_in}
use Rattle.eager_home.proofs.KeptAges.{after-input, leaves-input, sends-input}
use Rattle.eager_home.proofs.Within.{event-rises}
use Rattle.eager_home.proofs.node.EagerNode.local.Goals as goal

pub invariant_of-self : goal.invariant_of-self
invariant_of-self c =
    let n = c.self.inside in
    after-input n.number n.proc n.cache n.home n.ages c.self.invariant c.act_aged.new.proc c.act_aged.new.cache c.act_aged.new.home c.act_aged.new.ages c.act_aged.ensures.proc c.act_aged.ensures.cache c.act_aged.ensures.home
    (input_of c.args.event c.args.room) [] 0 c.args.out.now c.act_aged.new.out c.act_aged.result (input-of n.home.sizes c.args.event c.args.room) c.act_aged.ensures.lists c.act_aged.ensures.done c.act_aged.ensures.err_home c.act_aged.ensures.err_cache c.act_aged.ensures.err_proc

pub returns-clause-done : goal.returns-clause-done
returns-clause-done c =
    let n = c.self.inside in
    let home' = c.act_aged.new.home in
    let new = node_share c.act_aged.new.proc c.act_aged.new.cache home' in
    subst (λ k. IfOk c.act_aged.result (λ did. AgedActs k.sizes k.number k.program [] k.share (ages_in k) (input_of c.args.event c.args.room) 0 new (ages_of home'.sizes n.number c.act_aged.new.cache.copies c.act_aged.new.ages) c.args.out.now c.act_aged.new.out did)) c.self.view_is
    (subst (λ z. IfOk c.act_aged.result (λ did. AgedActs n.home.sizes n.number n.proc.program [] (node_share n.proc n.cache n.home) (ages_of n.home.sizes n.number n.cache.copies n.ages) (input_of c.args.event c.args.room) 0 new (ages_of z n.number c.act_aged.new.cache.copies c.act_aged.new.ages) c.args.out.now c.act_aged.new.out did)) (sym (ap (λ h. h.sizes) c.act_aged.ensures.home))
    c.act_aged.ensures.done)

pub returns-clause-sent : goal.returns-clause-sent
returns-clause-sent c =
    let n = c.self.inside in
    subst (λ k. IfOk c.act_aged.result (λ did. HasSent (IsSentOf k.sizes) c.args.out.now c.act_aged.new.out)) c.self.view_is
    (sends-input n.number n.proc n.cache n.home n.ages c.self.invariant (input_of c.args.event c.args.room) [] 0 (node_share c.act_aged.new.proc c.act_aged.new.cache c.act_aged.new.home) (ages_of n.home.sizes n.number c.act_aged.new.cache.copies c.act_aged.new.ages) c.args.out.now c.act_aged.new.out
    c.act_aged.result (input-of n.home.sizes c.args.event c.args.room) c.act_aged.ensures.done)

pub returns-clause-elsewhere : goal.returns-clause-elsewhere
returns-clause-elsewhere c =
    let n = c.self.inside in
    subst (λ k. IfOk c.act_aged.result (λ did. HasSent (λ send. send.0 ≢ k.number) c.args.out.now c.act_aged.new.out)) c.self.view_is
    (leaves-input n.number n.proc n.cache n.home n.ages c.self.invariant (input_of c.args.event c.args.room) [] 0 (node_share c.act_aged.new.proc c.act_aged.new.cache c.act_aged.new.home) (ages_of n.home.sizes n.number c.act_aged.new.cache.copies c.act_aged.new.ages) c.args.out.now c.act_aged.new.out
    c.act_aged.result (input-of n.home.sizes c.args.event c.args.room) (for-other n.number c.args.event c.args.room) c.act_aged.ensures.done)

pub returns-clause-within : goal.returns-clause-within
returns-clause-within c =
    let n = c.self.inside in
    let home' = c.act_aged.new.home in
    let new = node_share c.act_aged.new.proc c.act_aged.new.cache home' in
    let before = ages_of n.home.sizes n.number n.cache.copies n.ages in
    let after = ages_of n.home.sizes n.number c.act_aged.new.cache.copies c.act_aged.new.ages in
    subst (λ k. IfOk c.act_aged.result (λ did. (bound : ℕ) → AreWithin bound (ages_in k) → RiseWithin bound (bound + 1) (ages_of home'.sizes n.number c.act_aged.new.cache.copies c.act_aged.new.ages) did)) c.self.view_is
    (subst (λ z. IfOk c.act_aged.result (λ did. (bound : ℕ) → AreWithin bound before → RiseWithin bound (bound + 1) (ages_of z n.number c.act_aged.new.cache.copies c.act_aged.new.ages) did)) (sym (ap (λ h. h.sizes) c.act_aged.ensures.home))
    (IfOk-weaker c.act_aged.result (λ did. AgedActs n.home.sizes n.number n.proc.program [] (node_share n.proc n.cache n.home) before (input_of c.args.event c.args.room) 0 new after c.args.out.now c.act_aged.new.out did) (λ did. (bound : ℕ) → AreWithin bound before → RiseWithin bound (bound + 1) after did)
    (λ did a bound young. event-rises n.home.sizes n.number n.proc.program [] (node_share n.proc n.cache n.home) before new after c.args.out.now c.act_aged.new.out did bound c.args.event c.args.room young a) c.act_aged.ensures.done))
