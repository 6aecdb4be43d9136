-- The parts are those of a start.
use Rattle.std.proofs.Common.{replicate, ◌∙◌}
use Rattle.eager_home.proofs.Started.{made}
use Rattle.eager_home.proofs.node.EagerNode.new.Goals as goal

pub invariant_of-result : goal.invariant_of-result
invariant_of-result c =
    made c.args.cfg c.args.node c.args.program _ c.new-5.result c.in_ok-cache.cache c.in_ok-home.home c.in_ok-ages.ages c.within_limits.ensures c.requires.numbered c.requires.program
    c.new-5.ensures c.in_ok-cache.ensures c.in_ok-home.ensures (c.in_ok-ages.ensures ∙ (λ i. record { copies = replicate (c.sets.ensures.value i) 0; memory = replicate (c.lines-2.ensures.value i) 0 }))
