use Rattle.line_invariant.proofs.MeetsRow.{meets-take}
use Rattle.line_invariant.proofs.every_front.Goals as goal

pub returns : goal.returns
returns c = record { meets = λ home line from to class content rest good front. meets-take home line good from rest to class content front }
