-- By the rows, each put into the share of its node.
use Rattle.eager_part.proofs.Acts.{eager_act}
use Rattle.eager_part.proofs.every_own_act.Goals as goal

pub returns : goal.returns
returns c = record { kept = eager_act }
