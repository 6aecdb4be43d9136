-- The line itself stands in its set.
use Rattle.std.proofs.Common.{refl}
use Rattle.op_model.specs.Lines.{Shared as SharedCopy}
use Rattle.cpu_cache.specs.declared.cache.Slot.TheVariants.{Shared}
use Rattle.cpu_cache.proofs.Copies.{put_over, is_copied}
use Rattle.cpu_cache.proofs.cache.Cache.downgrade.Goals as goal

pub returns : goal.returns
returns c =
    rw (← c.body-body.ensures.value)
    (put_over c.args.self.now c.put_slot.new.self c.args.g (Shared c.args.g c.body-body.result) (SharedCopy c.body-body.result) c.put_slot.ensures.kept
    (is_copied _ c.requires.exclusive) c.put_slot.ensures.puts (λ other. refl))
