-- The line itself stands in its set.
use Rattle.std.proofs.Common.{◌∙◌, ap, refl}
use Rattle.line_map.specs.Sizes.{line_of, place_of}
use Rattle.op_model.specs.Lines.{Exclusive as ExclusiveCopy}
use Rattle.cpu_cache.specs.declared.cache.Slot.TheVariants.{Exclusive}
use Rattle.cpu_cache.specs.Caches.{CacheView}
use Rattle.cpu_cache.proofs.Copies.{put_over, is_copied}
use Rattle.cpu_cache.proofs.cache.Cache.store_word.Goals as goal

pub returns : goal.returns
returns c =
    let line = c.line_of-g.ensures.value ∙ ap (λ (cache : CacheView). line_of cache.sizes c.args.a) c.self.view_is in
    let place = c.word_of.ensures.value ∙ ap (λ (cache : CacheView). place_of cache.sizes c.args.a) c.self.view_is in
    let exclusive = rw (← line) at c.requires.exclusive in
    rw (← line, ← place, ← c.body-body.ensures.value, ← c.put.ensures)
    (put_over c.args.self.now c.put_slot.new.self c.line_of-g.result (Exclusive c.line_of-g.result c.put.new.self) (ExclusiveCopy c.put.new.self) c.put_slot.ensures.kept
    (is_copied _ exclusive) c.put_slot.ensures.puts (λ other. refl))
