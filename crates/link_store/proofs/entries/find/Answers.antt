-- Each link that the search has passed has another node.
use Rattle.std.proofs.Common.{refl}
use Rattle.link_store.specs.Entries.{blank}
use Rattle.link_store.proofs.Loops.{any_default, searching_next, searching_smaller, searching_below, searching_found, searching_none, stop_if}
use Rattle.link_store.proofs.entries.find.Goals as goal

pub bounds-entries-link : goal.bounds-entries-link
bounds-entries-link c = searching_below _ _ _ _ _ _ c.loop-at.invariant c.in-Link.is

pub returns-then-entry-node-clause-none : goal.returns-then-entry-node-clause-none
returns-then-entry-node-clause-none c =
    let below = searching_below _ _ _ _ _ _ c.loop-at.invariant c.in-Link.is in
    let has = (searching_found _ _ _ _ _ _ _ c.loop-at.invariant c.in-Link.is (any_default _ _ _ blank below) c.if-entry-node.true).1 in
    (λ e. cc, λ e. cc)

pub returns-then-entry-node-clause-found : goal.returns-then-entry-node-clause-found
returns-then-entry-node-clause-found c =
    let below = searching_below _ _ _ _ _ _ c.loop-at.invariant c.in-Link.is in
    (searching_found _ _ _ _ _ _ _ c.loop-at.invariant c.in-Link.is (any_default _ _ _ blank below) c.if-entry-node.true).0

pub loop-at-smaller : goal.loop-at-smaller
loop-at-smaller c =
    let below = searching_below _ _ _ _ _ _ c.loop-at.invariant c.in-Link.is in
    searching_smaller _ _ _ _ _ _ _ c.loop-at.invariant c.in-Link.is (any_default _ _ _ blank below)

pub loop-at-preserved : goal.loop-at-preserved
loop-at-preserved c =
    let below = searching_below _ _ _ _ _ _ c.loop-at.invariant c.in-Link.is in
    searching_next _ _ _ _ _ _ _ c.loop-at.invariant c.in-Link.is (any_default _ _ _ blank below) c.if-entry-node.false

pub returns : goal.returns
returns c = let none = searching_none _ _ _ _ _ c.loop-at.invariant (stop_if _ c.in_default.not-Link) in record { none = (λ _. none, λ _. refl); found = tt }
