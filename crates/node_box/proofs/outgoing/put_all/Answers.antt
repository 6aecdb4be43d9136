use Rattle.node_box.proofs.Putting.{put_space, put_next}
use Rattle.node_box.proofs.outgoing.put_all.Goals as goal

pub put_one-requires-clause-node : goal.put_one-requires-clause-node
put_one-requires-clause-node c = (put_space c.args.out.now c.loop-i.out c.args.sends.now.list c.loop-i.i c.at-dst.result c.requires c.at-dst.ensures c.loop-i.invariant).0

pub put_one-requires-clause-room : goal.put_one-requires-clause-room
put_one-requires-clause-room c = (put_space c.args.out.now c.loop-i.out c.args.sends.now.list c.loop-i.i c.at-dst.result c.requires c.at-dst.ensures c.loop-i.invariant).1

pub loop-i-preserved : goal.loop-i-preserved
loop-i-preserved c = put_next c.args.out.now c.loop-i.out c.put_one.new.out c.args.sends.now.list c.loop-i.i c.at-dst.result c.at-dst.ensures c.loop-i.invariant c.put_one.ensures
