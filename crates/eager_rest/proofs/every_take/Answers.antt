-- A message weighs more than all that is sent for it.
use Rattle.eager_rest.proofs.Falls.{falling_take, falling_weight}
use Rattle.eager_rest.proofs.every_take.Goals as goal

pub returns-clause-lighter : goal.returns-clause-lighter
returns-clause-lighter c = falling_weight

pub returns-clause-of_machine : goal.returns-clause-of_machine
returns-clause-of_machine c = falling_take
