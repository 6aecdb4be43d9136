-- After i steps the walk stands at the i-th link.
use Rattle.std.proofs.Common.{◌≡◌, arith}
use Rattle.link_store.specs.Entries.{blank}
use Rattle.link_store.proofs.Loops.{any_default, is_link, at_below, at_next, at_value}
use Rattle.link_store.proofs.entries.link_at.Goals as goal

pub link-requires : goal.link-requires
link-requires c = is_link _ _ _ _ c.loop.invariant (omega arith)

pub bounds-entries-link : goal.bounds-entries-link
bounds-entries-link c = at_below _ _ _ _ _ c.loop.invariant c.link.ensures

pub loop-preserved : goal.loop-preserved
loop-preserved c = at_next _ _ _ _ _ _ c.loop.invariant (omega arith) c.link.ensures (any_default _ _ _ blank (at_below _ _ _ _ _ c.loop.invariant c.link.ensures))

pub link-requires-2 : goal.link-requires-2
link-requires-2 c = is_link _ _ _ _ c.loop.invariant (omega arith)

pub returns-clause-below : goal.returns-clause-below
returns-clause-below c = at_below _ _ _ _ _ c.loop.invariant c.link-2.ensures

pub returns-clause-value : goal.returns-clause-value
returns-clause-value c =
    let there : c.loop.counter ≡ c.args.i = omega arith in
    rw there at (at_value _ _ _ _ _ c.loop.invariant (omega arith) c.link-2.ensures)
