use Rattle.eager_model.proofs.EachLine.{any-front}
use Rattle.eager_model.proofs.lines.every_front.Goals as goal

pub returns : goal.returns
returns c = record { meets = λ home line from to class content rest good front. any-front home line good from to class content rest front }
