use Rattle.eager_schedule.proofs.Runs.{serial-unique}
use Rattle.eager_schedule.proofs.Serials.{serial-each, serial-ends}
use Rattle.eager_schedule.proofs.every_serial.Goals as goal

pub returns-clause-ends : goal.returns-clause-ends
returns-clause-ends c = serial-ends

pub returns-clause-each : goal.returns-clause-each
returns-clause-each c = λ trace events past are all ordered serial. serial-each trace are all ordered events past serial

pub returns-clause-unique : goal.returns-clause-unique
returns-clause-unique c = serial-unique
