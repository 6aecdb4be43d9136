-- The plain directory's links are all free.
use Rattle.std.proofs.Common.{◌∙◌}
use Rattle.bitvec_dir.proofs.Frees.{links-free}
use Rattle.bitvec_dir.proofs.bits.BitDirSharers.free.Goals as goal

pub returns-clause-links : goal.returns-clause-links
returns-clause-links c = rw (← c.self.view_is) (c.free.ensures ∙ links-free c.self.inside.sets)
