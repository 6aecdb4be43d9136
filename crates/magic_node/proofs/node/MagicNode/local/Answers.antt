-- The parts after the act are a node's again, and what is sent fits the machine.
use Rattle.std.proofs.Common.{◌≢◌, [], subst}
use Rattle.std.specs.Prelude.{IfOk}
use Rattle.message_range.specs.Fitting.{IsSentOf}
use Rattle.magic_node.specs.Nodes.{HasSent, node_share}
use Rattle.magic_node.proofs.Kept.{after-event, sends-event, leaves-event}
use Rattle.magic_node.proofs.node.MagicNode.local.Goals as goal

pub invariant_of-self : goal.invariant_of-self
invariant_of-self g c =
    after-event c.self.inside.number c.self.inside.proc c.self.inside.cache c.self.inside.home c.self.invariant c.act.new.proc c.act.new.cache c.act.new.home c.act.ensures.proc c.act.ensures.cache c.act.ensures.home
    c.args.event c.args.room c.args.out.now c.act.new.out c.act.result c.act.ensures.done c.act.ensures.err_home c.act.ensures.err_cache c.act.ensures.err_proc

pub returns-clause-sent : goal.returns-clause-sent
returns-clause-sent g c =
    subst (λ n. IfOk c.act.result (λ effect. HasSent (IsSentOf n.sizes) c.args.out.now c.act.new.out)) c.self.view_is
    (sends-event c.self.inside.number c.self.inside.proc c.self.inside.cache c.self.inside.home c.self.invariant [] (node_share c.act.new.proc c.act.new.cache c.act.new.home) c.args.out.now c.act.new.out c.args.event c.args.room c.act.result c.act.ensures.done)

pub returns-clause-elsewhere : goal.returns-clause-elsewhere
returns-clause-elsewhere g c =
    subst (λ n. IfOk c.act.result (λ effect. HasSent (λ send. send.0 ≢ n.number) c.args.out.now c.act.new.out)) c.self.view_is
    (leaves-event c.self.inside.number c.self.inside.proc c.self.inside.cache c.self.inside.home c.self.invariant [] (node_share c.act.new.proc c.act.new.cache c.act.new.home) c.args.out.now c.act.new.out c.args.event c.args.room c.act.result c.act.ensures.done)
