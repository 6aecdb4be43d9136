-- The line itself stands in its set, and its words are as many as a line has.
use Rattle.std.proofs.Common.{◌∙◌, ap, refl}
use Rattle.line_map.specs.Sizes.{line_of, place_of}
use Rattle.op_model.specs.Lines.{Exclusive as ExclusiveCopy}
use Rattle.cpu_cache.specs.declared.cache.Slot.TheVariants.{Exclusive}
use Rattle.cpu_cache.specs.Caches.{CacheView}
use Rattle.cpu_cache.proofs.Copies.{put_over, is_copied}
use Rattle.cpu_cache.proofs.Writes.{after_write}
use Rattle.cpu_cache.proofs.cache.Cache.perform.Goals as goal

pub returns-clause-done : goal.returns-clause-done
returns-clause-done c =
    let op = c.args.op.now in
    let line = c.line_of-g.ensures.value ∙ ap (λ (cache : CacheView). line_of cache.sizes c.args.a) c.self.view_is in
    let place = c.word_of-place.ensures.value ∙ ap (λ (cache : CacheView). place_of cache.sizes c.args.a) c.self.view_is ∙ ap (place_of c.args.self.now.sizes) c.requires.same in
    let exclusive = rw (← line) at c.requires.exclusive in
    let left = after_write c.args.self.now.sizes op c.body-body.result c.requires.write c.body-body.ensures.width in
    rw (← line, ← c.body-body.ensures.value, left, ← place, ← c.get-before.ensures, ← c.written.ensures, ← c.put.ensures)
    (put_over c.args.self.now c.put_slot.new.self c.line_of-g.result (Exclusive c.line_of-g.result c.put.new.self) (ExclusiveCopy c.put.new.self) c.put_slot.ensures.kept
    (is_copied _ exclusive) c.put_slot.ensures.puts (λ other. refl))
