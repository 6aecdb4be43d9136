use Rattle.eager_schedule.proofs.Quiet.{resting, resting_clear}
use Rattle.eager_schedule.proofs.every_rest.Goals as goal

pub returns-clause-rests : goal.returns-clause-rests
returns-clause-rests c = resting

pub returns-clause-empty : goal.returns-clause-empty
returns-clause-empty c = λ state rest. rest.lanes

pub returns-clause-clear : goal.returns-clause-clear
returns-clause-clear c = resting_clear
