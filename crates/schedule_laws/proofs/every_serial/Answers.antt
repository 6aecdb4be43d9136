-- From rest each operation is completed, and so the serial schedule ends; and each of its events is determined by the state before it.
use Rattle.schedule_laws.proofs.Operations.{completes}
use Rattle.schedule_laws.proofs.Serials.{serial-ends, serial-each}
use Rattle.schedule_laws.proofs.Uniques.{serial-unique}
use Rattle.schedule_laws.proofs.Usual.{usual}
use Rattle.schedule_laws.proofs.every_serial.Goals as goal

pub returns-clause-ends : goal.returns-clause-ends
returns-clause-ends c = λ charge trace sizes ops ordered. serial-ends charge trace (usual trace sizes ops) ordered (completes charge trace (usual trace sizes ops))

pub returns-clause-unique : goal.returns-clause-unique
returns-clause-unique c = serial-unique

pub returns-clause-each : goal.returns-clause-each
returns-clause-each c = λ charge trace events past sizes ops ordered serial. serial-each charge trace (usual trace sizes ops) ordered (completes charge trace (usual trace sizes ops)) events past serial
