use Rattle.eager_history.proofs.Runs.{sound-run}
use Rattle.eager_history.proofs.Takes.{sound-meets}
use Rattle.eager_history.proofs.Events.{take-done, take-refused}
use Rattle.eager_history.proofs.every_front.Goals as goal

pub returns-clause-meets : goal.returns-clause-meets
returns-clause-meets c = λ trace events past src dst class m rest positive ran front. sound-meets trace past (sound-run trace events past positive ran) src dst class m rest front

pub returns-clause-taken : goal.returns-clause-taken
returns-clause-taken c = λ trace past src dst class m rest front. take-done trace past src dst class m rest front

pub returns-clause-refused : goal.returns-clause-refused
returns-clause-refused c = λ trace past src dst class victim m rest front. take-refused trace past src dst class m rest front victim
