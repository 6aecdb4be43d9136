-- The link before takes the next of the link that goes, or the line's start where it was the first one; then it is put in front of
-- the free list.
use Rattle.std.proofs.Common.{◌≡◌, ◌-◌, arith, refl, set}
use Rattle.std.proofs.lemmas.List.{get_or_read}
use Rattle.link_store.specs.Entries.{blank, idle, IsPool, pool_in}
use Rattle.link_store.specs.Pools.{after_unlink, link_with, chain_of}
use Rattle.link_store.proofs.Calls.{start_of}
use Rattle.link_store.proofs.Moves.{line_below, both_fit}
use Rattle.link_store.proofs.Taken.{found_in, found_below, before_below, taken_done, nothing_taken}
use Rattle.link_store.proofs.Unlinking.{IsUnlinking, first_unlinking, later_unlinking}
use Rattle.link_store.proofs.links.Links.unlink.Goals as goal
use Rattle.link_store.proofs.links.Links.unlink.Goals.{in-None, in-Some-before}

pub returns-in_default-clause-after : goal.returns-in_default-clause-after
returns-in_default-clause-after c =
    let l = line_below _ _ _ _ c.args.m c.self.view_is c.requires in
    nothing_taken _ _ _ _ _ _ _ _ c.self.view_is l c.deref.ensures.value c.index-start.ensures (c.in_default.ensures.none.0 refl)

pub index-requires : goal.index-requires
index-requires c =
    let l = line_below _ _ _ _ c.args.m c.self.view_is c.requires in
    let found = found_in _ _ _ _ _ _ _ l c.deref.ensures.value c.index-start.ensures c.in-Some.ensures.found in
    let below = (found_below _ _ _ _ _ _ c.self.invariant l found).0 in
    omega (arith, below)

pub index_mut-requires : goal.index_mut-requires
index_mut-requires c =
    let l = line_below _ _ _ _ c.args.m c.self.view_is c.requires in
    let found = found_in _ _ _ _ _ _ _ l c.deref.ensures.value c.index-start.ensures c.in-Some.ensures.found in
    let below = before_below _ _ _ _ _ _ _ c.self.invariant l found c.in-Some-before.is in
    omega (arith, below)

pub index_mut-taken-requires : goal.index_mut-taken-requires
index_mut-taken-requires c =
    let l = line_below _ _ _ _ c.args.m c.self.view_is c.requires in
    let found = found_in _ _ _ _ _ _ _ l c.deref.ensures.value c.index-start.ensures c.in-Some.ensures.found in
    let below = (found_below _ _ _ _ _ _ c.self.invariant l found).0 in
    elim c.match-found.branch [ in-None w ↦ rw w.self-inside-is (omega (arith, below)) | in-Some-before w ↦ rw w.self-inside-is (omega (arith, below)) ]

pub put_front-requires : goal.put_front-requires
put_front-requires c =
    let l = line_below _ _ _ _ c.args.m c.self.view_is c.requires in
    let found = found_in _ _ _ _ _ _ _ l c.deref.ensures.value c.index-start.ensures c.in-Some.ensures.found in
    let some = (found_below _ _ _ _ _ _ c.self.invariant l found).1 in
    let both = both_fit _ _ _ c.self.invariant _ l in
    elim c.match-found.branch [ in-None w ↦ rw w.self-inside-is (omega (arith, both, some)) | in-Some-before w ↦ rw w.self-inside-is (omega (arith, both, some)) ]

unlinking : (c : goal.After-self-3-1) → IsUnlinking c.self.inside.entries.items c.match-found.self-inside.entries.items c.self.inside.lines.items c.self.inside.free c.args.m c.args.node c.in-Some.found c.match-found.first × (c.match-found.self-inside.lines.items ≡ c.self.inside.lines.items) × (c.match-found.self-inside.free ≡ c.self.inside.free)
unlinking c =
    let l = line_below _ _ _ _ c.args.m c.self.view_is c.requires in
    let found = found_in _ _ _ _ _ _ _ l c.deref.ensures.value c.index-start.ensures c.in-Some.ensures.found in
    let below = (found_below _ _ _ _ _ _ c.self.invariant l found).0 in
    let at = get_or_read _ _ c.index.result.now below c.index.ensures blank in
    elim c.match-found.branch [
      | in-None w ↦ rw (w.self-inside-is, w.first-is) (first_unlinking _ _ _ _ _ _ _ c.self.invariant l found w.in-None.is at, refl, refl)
      | in-Some-before w ↦
          let before = before_below _ _ _ _ _ _ _ c.self.invariant l found w.in-Some-before.is in
          let line = get_or_read _ _ c.index-start.result.now l c.index-start.ensures idle in
          rw (w.self-inside-is, w.first-is, line) (later_unlinking _ _ _ _ _ _ _ _ _ c.self.invariant l found w.in-Some-before.is at (get_or_read _ _ w.index_mut.result.now before w.index_mut.ensures.value blank), refl, refl)
    ]

done : (c : goal.After-self-3-1) → IsPool (set c.match-found.self-inside.entries.items c.in-Some.found.link c.put_front.new.entry) (set c.match-found.self-inside.lines.items c.args.m (start_of c.match-found.first (c.index-start.result.now.len - 1))) c.put_front.new.self × (pool_in (set c.match-found.self-inside.entries.items c.in-Some.found.link c.put_front.new.entry) (set c.match-found.self-inside.lines.items c.args.m (start_of c.match-found.first (c.index-start.result.now.len - 1))) c.put_front.new.self ≡ after_unlink c.args.self.now c.args.m c.args.node (link_with (chain_of c.args.self.now c.args.m) c.args.node))
done c =
    let l = line_below _ _ _ _ c.args.m c.self.view_is c.requires in
    let u = unlinking c in
    let entry = rw u.2 at c.put_front.ensures.entry in
    let start = rw u.2 at c.put_front.ensures.start in
    rw u.1 (taken_done _ _ _ _ _ _ _ _ _ _ _ _ c.self.invariant c.self.view_is l u.0 c.index-start.ensures entry start)

pub invariant_of-self : goal.invariant_of-self
invariant_of-self c = (done c).0

pub returns-clause-after : goal.returns-clause-after
returns-clause-after c = (done c).1

pub returns-clause-partition : goal.returns-clause-partition
returns-clause-partition c = (done c).0.partition
