-- No other line of the free set has a copy.
use Rattle.std.proofs.Common.{refl}
use Rattle.op_model.specs.Lines.{Exclusive as ExclusiveCopy}
use Rattle.cpu_cache.specs.declared.cache.Slot.TheVariants.{Exclusive}
use Rattle.cpu_cache.proofs.Copies.{replaced, others_in_free}
use Rattle.cpu_cache.proofs.cache.Cache.fill_e.Goals as goal

pub returns : goal.returns
returns c =
    replaced c.args.self.now c.put_slot.new.self c.args.g (Exclusive c.args.g c.args.body) (ExclusiveCopy c.args.body) c.put_slot.ensures.puts (λ other. refl)
    (others_in_free c.args.self.now c.args.g c.put_slot.ensures.kept c.requires.free)
