-- The slot read is that of the line's set.
use Rattle.std.proofs.Common.{◌<◌, ◌∙◌, ap, sym, subst, length, arith, slice_index_or}
use Rattle.std.proofs.lemmas.List.{get_or_read}
use Rattle.line_map.specs.Sizes.{set_of}
use Rattle.cpu_cache.specs.declared.cache.Slot.TheVariants.{Empty}
use Rattle.cpu_cache.specs.declared.cache.Slot.{Slot}
use Rattle.cpu_cache.specs.Slots.{IsSlotOf}
use Rattle.cpu_cache.proofs.Slots.{slot_of, cache_of, direct_mapped}
use Rattle.cpu_cache.proofs.cache.Cache.slot.Goals as goal

pub returns : goal.returns
returns c =
    let sizes = c.self.inside.cfg in
    let items = c.self.inside.slots.items in
    let at = c.set_of.ensures.value in
    let below = c.set_of.ensures.below in
    let count = c.self.invariant.count in
    let l : c.set_of.result < length items = omega arith in
    let found = get_or_read items c.set_of.result c.index.result.now l c.index.ensures Empty ∙ ap (λ i. slice_index_or items i Empty) at in
    let there : set_of sizes c.args.g < length items = omega (arith, at, l) in
    record {
      of_set = rw (← c.self.view_is) (subst (λ (x : Slot). IsSlotOf (cache_of sizes items) c.args.g x) (sym found) (slot_of sizes items c.self.invariant c.args.g there));
      kept = rw (← c.self.view_is) (direct_mapped sizes items c.self.invariant);
    }
