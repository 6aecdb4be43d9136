use Rattle.check_command.proofs.OneReading.{one-reading, exact}
use Rattle.check_command.proofs.law.every_input.Goals as goal

pub returns-clause-one : goal.returns-clause-one
returns-clause-one c = one-reading

pub returns-clause-exact : goal.returns-clause-exact
returns-clause-exact c = exact
