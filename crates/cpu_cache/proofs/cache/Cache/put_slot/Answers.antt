-- The slot written is that of the line's set.
use Rattle.std.proofs.Common.{◌<◌, length, arith}
use Rattle.line_map.specs.Sizes.{set_of}
use Rattle.cpu_cache.specs.Slots.{FitsSet}
use Rattle.cpu_cache.proofs.Slots.{puts_slot, direct_mapped}
use Rattle.cpu_cache.proofs.cache.Cache.put_slot.Goals as goal

pub returns : goal.returns
returns c =
    let sizes = c.self.inside.cfg in
    let items = c.self.inside.slots.items in
    let at = c.set_of-set.ensures.value in
    let below = c.set_of-set.ensures.below in
    let count = c.self.invariant.count in
    let there : set_of sizes c.args.g < length items = omega (arith, at) in
    let fits : FitsSet sizes (set_of sizes c.args.g) c.args.slot = rw (← c.self.view_is) at c.requires.fits in
    record {
      puts = rw (at, ← c.self.view_is) (puts_slot sizes items c.self.invariant c.args.g c.args.slot there fits);
      kept = rw (← c.self.view_is) (direct_mapped sizes items c.self.invariant);
    }
