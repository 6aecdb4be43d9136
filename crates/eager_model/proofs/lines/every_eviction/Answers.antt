use Rattle.eager_model.proofs.EachLine.{any-leave}
use Rattle.eager_model.proofs.DrainingLeaves.{evict-quiet}
use Rattle.eager_model.proofs.lines.every_eviction.Goals as goal

pub returns-clause-kept : goal.returns-clause-kept
returns-clause-kept c = λ home line node kind outcome good ok. any-leave home line good node kind outcome ok

pub returns-clause-quiet : goal.returns-clause-quiet
returns-clause-quiet c = λ node home kind share outcome ok. evict-quiet node home kind share outcome ok
