-- By the rows.
use Rattle.bitvec_dir.proofs.Acts.{effect-same}
use Rattle.bitvec_dir.proofs.laws.every_linkless_event.Goals as goal

pub returns : goal.returns
returns c = effect-same
