use Rattle.cpu_cache.proofs.Slots.{direct_mapped}
use Rattle.cpu_cache.proofs.cache.Cache.cfg.Goals as goal

pub returns-clause-kept : goal.returns-clause-kept
returns-clause-kept c = rw (← c.self.view_is) (direct_mapped _ _ c.self.invariant)
