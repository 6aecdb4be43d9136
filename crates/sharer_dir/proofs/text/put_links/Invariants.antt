use Rattle.std.proofs.Common.{◌≡◌, ◌++◌, take}
use Rattle.std.specs.Prelude.{flat_map}
use Rattle.link_store.specs.Pools.{chain_of}
use Rattle.sharer_dir.specs.Texts.{link_text}
use Rattle.sharer_dir.proofs.text.put_links.Given as goal

abbrev pub invariant-loop-i : goal.invariant-loop-i
invariant-loop-i l = l.out.items ≡ l.fn.out.items ++ flat_map link_text (take l.i (chain_of l.links l.m))
