-- From rest each operation is completed, and so the finishing schedule ends; and each of its events is determined by the state before it.
use Rattle.schedule_laws.proofs.Operations.{completes}
use Rattle.schedule_laws.proofs.Finishes.{finishes, rested}
use Rattle.schedule_laws.proofs.NextOps.{operation}
use Rattle.schedule_laws.proofs.Uniques.{finishing-unique}
use Rattle.schedule_laws.proofs.Usual.{usual}
use Rattle.schedule_laws.proofs.every_finish.Goals as goal

pub returns-clause-operation : goal.returns-clause-operation
returns-clause-operation c = λ charge trace before past op sizes ops ran rests first. operation charge trace ops (completes charge trace (usual trace sizes ops)) before past op ran rests first

pub returns-clause-ends : goal.returns-clause-ends
returns-clause-ends c = λ charge trace before past sizes ops ran. finishes charge trace (usual trace sizes ops) (completes charge trace (usual trace sizes ops)) before past ran

pub returns-clause-rested : goal.returns-clause-rested
returns-clause-rested c = λ charge trace before past sizes ops ran rests. rested charge trace (usual trace sizes ops) (completes charge trace (usual trace sizes ops)) before past ran rests

pub returns-clause-unique : goal.returns-clause-unique
returns-clause-unique c = finishing-unique
