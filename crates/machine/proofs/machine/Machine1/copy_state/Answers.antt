-- The node's cache has what its share says.
use Rattle.std.proofs.Common.{ap, sym, ◌∙◌}
use Rattle.op_model.specs.Lines.{state_of}
use Rattle.op_model.specs.Shares.{copy_in}
use Rattle.cpu_cache.specs.Caches.{CacheView}
use Rattle.machine.specs.Faces.{Face}
use Rattle.machine.proofs.Others.{copy-is}
use Rattle.machine.proofs.machine.Machine1.copy_state.Goals as goal

pub returns : goal.returns
returns g c = λ past ran.
    c.look.ensures.value ∙ ap (λ (v : CacheView). state_of (copy_in v.copies c.args.line)) c.cache.ensures ∙ ap (λ (f : Face). state_of (copy_in f.share.copies c.args.line)) (c.node.ensures.node past ran)
    ∙ ap state_of (sym (copy-is c.args.self.now.sizes (past.state.share c.args.n) c.args.line))
