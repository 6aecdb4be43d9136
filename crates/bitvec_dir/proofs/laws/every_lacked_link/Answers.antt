-- By the rows of a Get, and that of a Reclaim.
use Rattle.bitvec_dir.proofs.Refusing.{lacking-refuses, turning-unserved}
use Rattle.bitvec_dir.proofs.laws.every_lacked_link.Goals as goal

pub returns-clause-refuses : goal.returns-clause-refuses
returns-clause-refuses c = lacking-refuses

pub returns-clause-unserved : goal.returns-clause-unserved
returns-clause-unserved c = turning-unserved
