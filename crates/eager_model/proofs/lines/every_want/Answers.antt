use Rattle.eager_model.proofs.EachLine.{any-idle, any-writes, any-bare, any-local}
use Rattle.eager_model.proofs.lines.every_want.Goals as goal

pub returns-clause-idle : goal.returns-clause-idle
returns-clause-idle c = λ home line node good none. any-idle home line good node none

pub returns-clause-writes : goal.returns-clause-writes
returns-clause-writes c = λ home line node op marked good wants write. any-writes home line good node op marked wants write

pub returns-clause-bare : goal.returns-clause-bare
returns-clause-bare c = λ home line node op marked good wants. any-bare home line good node op marked wants

pub returns-clause-local : goal.returns-clause-local
returns-clause-local c = λ home line good. any-local home line good
