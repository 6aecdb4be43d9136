-- The machine has made the first events of the schedule, and the operations before the place are completed.
use Rattle.std.proofs.Common.{◌≡◌, ◌≤◌, ◌-◌, length, Some}
use Rattle.schedule.specs.Chosen.{AreCompletedTo}
use Rattle.eager_model.specs.Runs.{Past}
use Rattle.eager_machine.specs.Machines.{run_of}
use Rattle.eager_machine.proofs.Serials.{IsUnderWay, most_in_all}
use Rattle.eager_machine.proofs.eager.EagerMachine.serial.Given as goal

abbrev pub invariant-loop-event : goal.invariant-loop-event
invariant-loop-event l =
    record {
      way : IsUnderWay l.fn.self l.order l.self;
      within : l.at ≤ length l.order;
      completed : (past : Past) → run_of l.self ≡ Some past → AreCompletedTo l.order l.at past.state;
    }

abbrev pub decreases-loop-event : goal.decreases-loop-event
decreases-loop-event l = most_in_all l.fn.self l.order - length l.self.events
