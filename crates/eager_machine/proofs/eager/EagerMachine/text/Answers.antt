-- What is promised of every run is promised of this one.
use Rattle.eager_machine.proofs.Promised.{keeps-own}
use Rattle.eager_machine.proofs.eager.EagerMachine.text.Goals as goal

pub returns-clause-keeps : goal.returns-clause-keeps
returns-clause-keeps c = keeps-own c.args.self.now c.told-cfg.ensures.kept
