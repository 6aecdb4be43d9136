-- By the rows, each put into the share of its node.
use Rattle.own_part.proofs.Acts.{own_act}
use Rattle.own_part.proofs.every_own_act.Goals as goal

pub returns : goal.returns
returns c = record { kept = own_act }
