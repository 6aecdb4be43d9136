use Rattle.std.proofs.Common.{length}
use Rattle.link_store.specs.Pools.{chain_of}
use Rattle.sharer_dir.proofs.Clearing.{IsClearing}
use Rattle.sharer_dir.proofs.linked.free_chain.Given as goal

abbrev pub invariant-loop : goal.invariant-loop
invariant-loop l = IsClearing l.initial.links l.links l.m

abbrev pub decreases-loop : goal.decreases-loop
decreases-loop l = length (chain_of l.links l.m)
