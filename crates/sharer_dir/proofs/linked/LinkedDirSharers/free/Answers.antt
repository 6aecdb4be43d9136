use Rattle.std.proofs.Common.{◌∙◌}
use Rattle.sharer_dir.proofs.Directories.{free_all}
use Rattle.sharer_dir.proofs.linked.LinkedDirSharers.free.Goals as goal

pub returns : goal.returns
returns c = let x = c.free_count.ensures.value in rw (← c.self.view_is) (x ∙ free_all _ c.self.invariant.linked)
