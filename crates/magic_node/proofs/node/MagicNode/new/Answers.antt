-- The parts are those of a start.
use Rattle.magic_node.proofs.Starts.{made}
use Rattle.magic_node.proofs.node.MagicNode.new.Goals as goal

pub invariant_of-result : goal.invariant_of-result
invariant_of-result g c =
    made c.args.cfg c.args.node c.args.program (g.D.Sharers.directory c.args.dir).charge c.args.dir c.new-3.result c.in_ok-cache.cache c.in_ok-home.home c.within_limits.ensures c.requires.numbered c.requires.program
    c.new-3.ensures c.in_ok-cache.ensures c.in_ok-home.ensures
