-- Each turn appends the text of one link.
use Rattle.std.proofs.Common.{◌<◌, length, arith}
use Rattle.link_store.specs.Pools.{chain_of}
use Rattle.sharer_dir.proofs.Appended.{one_more}
use Rattle.sharer_dir.proofs.text.put_links.Goals as goal

pub loop-i-preserved : goal.loop-i-preserved
loop-i-preserved c =
    let l : c.loop-i.i < length (chain_of c.args.links.now c.args.m) = let e = c.len-i-end.ensures.value in omega (arith, e) in
    one_more _ _ _ (chain_of c.args.links.now c.args.m) c.loop-i.i c.link_at.result c.node_at.result l c.link_at.ensures c.node_at.ensures c.loop-i.invariant c.in_ok-put_link.ensures
