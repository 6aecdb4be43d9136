-- The walk stops where the list of the link stops.
use Rattle.std.proofs.Common.{◌≡◌, arith, inl, inr}
use Rattle.std.proofs.lemmas.List.{get_or_read}
use Rattle.link_store.specs.declared.entries.Next.TheVariants.{End}
use Rattle.link_store.specs.Entries.{blank}
use Rattle.link_store.proofs.Homes.{link_below, homing_below, homing_next, homing_smaller, home_at, free_at_end}
use Rattle.link_store.proofs.links.Links.home_line.Goals as goal

pub index-requires : goal.index-requires
index-requires c =
    let below = homing_below _ _ _ _ _ _ c.self.invariant (link_below _ _ _ _ _ c.self.view_is c.requires) c.loop-at.invariant c.in-Link.is in
    omega (arith, below)

pub loop-at-smaller : goal.loop-at-smaller
loop-at-smaller c =
    let l = link_below _ _ _ _ _ c.self.view_is c.requires in
    let below = homing_below _ _ _ _ _ _ c.self.invariant l c.loop-at.invariant c.in-Link.is in
    homing_smaller _ _ _ _ _ _ _ c.self.invariant l c.loop-at.invariant c.in-Link.is (get_or_read _ _ c.index.result.now below c.index.ensures blank)

pub loop-at-preserved : goal.loop-at-preserved
loop-at-preserved c =
    let below = homing_below _ _ _ _ _ _ c.self.invariant (link_below _ _ _ _ _ c.self.view_is c.requires) c.loop-at.invariant c.in-Link.is in
    homing_next _ _ _ _ _ c.loop-at.invariant c.in-Link.is (get_or_read _ _ c.index.result.now below c.index.ensures blank)

pub returns-in-Header : goal.returns-in-Header
returns-in-Header c =
    let home = home_at _ _ _ _ _ _ _ c.self.invariant c.self.view_is (link_below _ _ _ _ _ c.self.view_is c.requires) c.loop-at.invariant c.in-Header.is in
    record { line = home.0; free = home.1 }

pub returns-in-Link-at : goal.returns-in-Link-at
returns-in-Link-at c =
    let ended : c.loop-at.at ≡ End = elim c.in-Link-at.is [ inl on ↦ absurd (c.in_default.not-Link on.0 on.1) | inr e ↦ e ] in
    let free = free_at_end _ _ _ _ _ _ c.self.invariant c.self.view_is (link_below _ _ _ _ _ c.self.view_is c.requires) c.loop-at.invariant ended in
    record { line = free.0; free = free.1 }
