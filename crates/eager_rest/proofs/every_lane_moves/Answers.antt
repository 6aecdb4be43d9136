-- A Take has no other cause than its victim, and no list holds a link.
use Rattle.eager_rest.proofs.Deliver.{delivery-takes, enabled_take}
use Rattle.eager_rest.proofs.every_lane_moves.Goals as goal

pub returns-clause-enabled : goal.returns-clause-enabled
returns-clause-enabled c = enabled_take

pub returns-clause-alone : goal.returns-clause-alone
returns-clause-alone c = delivery-takes
