-- As many empty queues as there were turns.
use Rattle.std.proofs.Common.{◌≡◌, ◌<◌, ℕ, List, [], length, get_or}
use Rattle.std.specs.Vec.{vec_capacity}
use Rattle.eager_machine.specs.declared.queue.AgedMsg.{AgedMsg}
use Rattle.eager_machine.proofs.lanes.AgedLanes.new.Given as goal

abbrev pub invariant-loop-number : goal.invariant-loop-number
invariant-loop-number l =
    record {
      count : length l.queues.items ≡ l._number;
      each : (n : ℕ) (d : List AgedMsg) → n < length l.queues.items → get_or l.queues.items n d ≡ [];
      room : vec_capacity l.queues ≡ l.count;
    }
