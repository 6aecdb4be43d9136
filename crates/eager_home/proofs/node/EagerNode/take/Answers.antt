-- The parts after the message are a node's again, and what is sent fits the machine.
use Rattle.std.proofs.Common.{◌≢◌, ◌<◌, ◌≤◌, ℕ, subst, sym, ap}
use Rattle.std.specs.Prelude.{IfOk}
use Rattle.std.proofs.lemmas.Result.{IfOk-weaker}
use Rattle.op_model.specs.Events.Node.{TakeFrom}
use Rattle.op_model.specs.Messages.{msg_content}
use Rattle.op_model.specs.MessageWords.{IsMsgOf, words_behind}
use Rattle.message_range.specs.Fitting.{IsInputOf, IsMsgForOther, IsSentOf}
use Rattle.magic_node.specs.Nodes.{HasSent, node_share}
use Rattle.eager_home.specs.Aged.{AgedActs, AreWithin}
use Rattle.eager_home.specs.Ages.{ages_of}
use Rattle.eager_home.specs.Views.{RiseWithin, ages_in}
use Rattle.eager_home.proofs.KeptAges.{after-input, leaves-input, sends-input}
use Rattle.eager_home.proofs.Within.{message-rises}
use Rattle.eager_home.proofs.node.EagerNode.take.Goals as goal

pub invariant_of-self : goal.invariant_of-self
invariant_of-self c =
    let n = c.self.inside in
    let given : IsInputOf n.home.sizes (TakeFrom c.args.src c.args.msg.now c.args.victim) = (subst (λ k. c.args.src < k.sizes.nodes) (sym c.self.view_is) c.requires.src, subst (λ k. IsMsgOf k.sizes c.args.msg.now) (sym c.self.view_is) c.requires.msg) in
    after-input n.number n.proc n.cache n.home n.ages c.self.invariant c.take_aged.new.proc c.take_aged.new.cache c.take_aged.new.home c.take_aged.new.ages c.take_aged.ensures.proc c.take_aged.ensures.cache c.take_aged.ensures.home
    (TakeFrom c.args.src c.args.msg.now c.args.victim) (words_behind (msg_content c.args.msg.now)) c.args.age c.args.out.now c.take_aged.new.out c.take_aged.result given c.take_aged.ensures.lists c.take_aged.ensures.done c.take_aged.ensures.err_home c.take_aged.ensures.err_cache c.take_aged.ensures.err_proc

pub returns-clause-sent : goal.returns-clause-sent
returns-clause-sent c =
    let n = c.self.inside in
    let given : IsInputOf n.home.sizes (TakeFrom c.args.src c.args.msg.now c.args.victim) = (subst (λ k. c.args.src < k.sizes.nodes) (sym c.self.view_is) c.requires.src, subst (λ k. IsMsgOf k.sizes c.args.msg.now) (sym c.self.view_is) c.requires.msg) in
    subst (λ k. IfOk c.take_aged.result (λ did. HasSent (IsSentOf k.sizes) c.args.out.now c.take_aged.new.out)) c.self.view_is
    (sends-input n.number n.proc n.cache n.home n.ages c.self.invariant (TakeFrom c.args.src c.args.msg.now c.args.victim) (words_behind (msg_content c.args.msg.now)) c.args.age (node_share c.take_aged.new.proc c.take_aged.new.cache c.take_aged.new.home) (ages_of n.home.sizes n.number c.take_aged.new.cache.copies c.take_aged.new.ages) c.args.out.now c.take_aged.new.out
    c.take_aged.result given c.take_aged.ensures.done)

pub returns-clause-elsewhere : goal.returns-clause-elsewhere
returns-clause-elsewhere c =
    let n = c.self.inside in
    let given : IsInputOf n.home.sizes (TakeFrom c.args.src c.args.msg.now c.args.victim) = (subst (λ k. c.args.src < k.sizes.nodes) (sym c.self.view_is) c.requires.src, subst (λ k. IsMsgOf k.sizes c.args.msg.now) (sym c.self.view_is) c.requires.msg) in
    λ other.
    subst (λ k. IfOk c.take_aged.result (λ did. HasSent (λ send. send.0 ≢ k.number) c.args.out.now c.take_aged.new.out)) c.self.view_is
    (leaves-input n.number n.proc n.cache n.home n.ages c.self.invariant (TakeFrom c.args.src c.args.msg.now c.args.victim) (words_behind (msg_content c.args.msg.now)) c.args.age (node_share c.take_aged.new.proc c.take_aged.new.cache c.take_aged.new.home) (ages_of n.home.sizes n.number c.take_aged.new.cache.copies c.take_aged.new.ages) c.args.out.now c.take_aged.new.out
    c.take_aged.result given (subst (λ k. IsMsgForOther k.number c.args.msg.now) (sym c.self.view_is) other) c.take_aged.ensures.done)

pub returns-clause-within : goal.returns-clause-within
returns-clause-within c =
    let n = c.self.inside in
    let home' = c.take_aged.new.home in
    let new = node_share c.take_aged.new.proc c.take_aged.new.cache home' in
    let before = ages_of n.home.sizes n.number n.cache.copies n.ages in
    let after = ages_of n.home.sizes n.number c.take_aged.new.cache.copies c.take_aged.new.ages in
    subst (λ k. IfOk c.take_aged.result (λ did. (bound : ℕ) → AreWithin bound (ages_in k) → c.args.age ≤ bound → RiseWithin bound bound (ages_of home'.sizes n.number c.take_aged.new.cache.copies c.take_aged.new.ages) did)) c.self.view_is
    (subst (λ z. IfOk c.take_aged.result (λ did. (bound : ℕ) → AreWithin bound before → c.args.age ≤ bound → RiseWithin bound bound (ages_of z n.number c.take_aged.new.cache.copies c.take_aged.new.ages) did)) (sym (ap (λ h. h.sizes) c.take_aged.ensures.home))
    (IfOk-weaker c.take_aged.result (λ did. AgedActs n.home.sizes n.number n.proc.program (words_behind (msg_content c.args.msg.now)) (node_share n.proc n.cache n.home) before (TakeFrom c.args.src c.args.msg.now c.args.victim) c.args.age new after c.args.out.now c.take_aged.new.out did) (λ did. (bound : ℕ) → AreWithin bound before → c.args.age ≤ bound → RiseWithin bound bound after did)
    (λ did a bound young of. message-rises n.home.sizes n.number n.proc.program (words_behind (msg_content c.args.msg.now)) (node_share n.proc n.cache n.home) before new after c.args.out.now c.take_aged.new.out did bound c.args.src c.args.msg.now c.args.victim c.args.age young of a) c.take_aged.ensures.done))
