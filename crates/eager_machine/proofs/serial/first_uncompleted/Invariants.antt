use Rattle.std.proofs.Common.{◌≡◌, Some}
use Rattle.schedule.specs.Chosen.{AreCompletedTo}
use Rattle.eager_model.specs.Runs.{Past}
use Rattle.eager_machine.specs.Machines.{run_of}
use Rattle.eager_machine.proofs.serial.first_uncompleted.Given as goal

abbrev pub invariant-loop-at : goal.invariant-loop-at
invariant-loop-at l = (past : Past) → run_of l.m ≡ Some past → AreCompletedTo l.order l.at past.state
