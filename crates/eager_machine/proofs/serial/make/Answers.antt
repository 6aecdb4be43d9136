-- What the machine says of the event that it made.
use Rattle.eager_machine.proofs.serial.make.Goals as goal

pub returns-in-Ok-clause-next : goal.returns-in-Ok-clause-next
returns-in-Ok-clause-next c = c.in-Ok.ensures.next
