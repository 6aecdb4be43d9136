-- The parts after the message are a node's again, and what is sent fits the machine.
use Rattle.std.proofs.Common.{◌≢◌, ◌<◌, sym, subst}
use Rattle.std.specs.Prelude.{IfOk}
use Rattle.op_model.specs.Events.Node.{TakeFrom}
use Rattle.op_model.specs.Messages.{msg_content}
use Rattle.op_model.specs.MessageWords.{IsMsgOf, words_behind}
use Rattle.message_range.specs.Fitting.{IsInputOf, IsMsgForOther, IsSentOf}
use Rattle.magic_node.specs.Nodes.{HasSent, node_share}
use Rattle.magic_node.proofs.Kept.{after-input, sends-input, leaves-input}
use Rattle.magic_node.proofs.node.MagicNode.take.Goals as goal

pub invariant_of-self : goal.invariant_of-self
invariant_of-self g c =
    let given : IsInputOf c.self.inside.home.sizes (TakeFrom c.args.src c.args.msg.now c.args.victim) = (subst (λ n. c.args.src < n.sizes.nodes) (sym c.self.view_is) c.requires.src, subst (λ n. IsMsgOf n.sizes c.args.msg.now) (sym c.self.view_is) c.requires.msg) in
    after-input c.self.inside.number c.self.inside.proc c.self.inside.cache c.self.inside.home c.self.invariant c.take_on.new.proc c.take_on.new.cache c.take_on.new.home c.take_on.ensures.proc c.take_on.ensures.cache c.take_on.ensures.home
    (TakeFrom c.args.src c.args.msg.now c.args.victim) (words_behind (msg_content c.args.msg.now)) c.args.out.now c.take_on.new.out c.take_on.result given c.take_on.ensures.done c.take_on.ensures.err_home c.take_on.ensures.err_cache c.take_on.ensures.err_proc

pub returns-clause-sent : goal.returns-clause-sent
returns-clause-sent g c =
    let given : IsInputOf c.self.inside.home.sizes (TakeFrom c.args.src c.args.msg.now c.args.victim) = (subst (λ n. c.args.src < n.sizes.nodes) (sym c.self.view_is) c.requires.src, subst (λ n. IsMsgOf n.sizes c.args.msg.now) (sym c.self.view_is) c.requires.msg) in
    subst (λ n. IfOk c.take_on.result (λ effect. HasSent (IsSentOf n.sizes) c.args.out.now c.take_on.new.out)) c.self.view_is
    (sends-input c.self.inside.number c.self.inside.proc c.self.inside.cache c.self.inside.home c.self.invariant (words_behind (msg_content c.args.msg.now)) (node_share c.take_on.new.proc c.take_on.new.cache c.take_on.new.home) c.args.out.now c.take_on.new.out
    (TakeFrom c.args.src c.args.msg.now c.args.victim) c.take_on.result given c.take_on.ensures.done)

pub returns-clause-elsewhere : goal.returns-clause-elsewhere
returns-clause-elsewhere g c =
    let given : IsInputOf c.self.inside.home.sizes (TakeFrom c.args.src c.args.msg.now c.args.victim) = (subst (λ n. c.args.src < n.sizes.nodes) (sym c.self.view_is) c.requires.src, subst (λ n. IsMsgOf n.sizes c.args.msg.now) (sym c.self.view_is) c.requires.msg) in
    λ other.
    subst (λ n. IfOk c.take_on.result (λ effect. HasSent (λ send. send.0 ≢ n.number) c.args.out.now c.take_on.new.out)) c.self.view_is
    (leaves-input c.self.inside.number c.self.inside.proc c.self.inside.cache c.self.inside.home c.self.invariant (words_behind (msg_content c.args.msg.now)) (node_share c.take_on.new.proc c.take_on.new.cache c.take_on.new.home) c.args.out.now c.take_on.new.out
    (TakeFrom c.args.src c.args.msg.now c.args.victim) c.take_on.result given (subst (λ n. IsMsgForOther n.number c.args.msg.now) (sym c.self.view_is) other) c.take_on.ensures.done)
