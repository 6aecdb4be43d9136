-- The node's cache has what its share says.
use Rattle.std.proofs.Common.{ap, sym, ◌∙◌}
use Rattle.op_model.specs.Lines.{state_of}
use Rattle.op_model.specs.Shares.{copy_in}
use Rattle.cpu_cache.specs.Caches.{CacheView}
use Rattle.machine.specs.Driven.{run_made}
use Rattle.machine.proofs.Others.{copy-is}
use Rattle.machine.proofs.viewed.Machine1Viewed.cached.Goals as goal

pub returns : goal.returns
returns g c =
    c.look.ensures.value ∙ ap (λ (v : CacheView). state_of (copy_in v.copies c.args.line)) c.cache_now.ensures
    ∙ ap state_of (sym (copy-is c.args.self.now.sizes ((run_made c.args.self.now).past.state.share c.args.node) c.args.line))
