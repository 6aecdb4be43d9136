use Rattle.line_invariant.proofs.Locals.{good-evict}
use Rattle.line_invariant.proofs.every_eviction.Goals as goal

pub returns : goal.returns
returns c = record { kept = λ home line node kind outcome good ok. good-evict home line good node kind outcome ok }
