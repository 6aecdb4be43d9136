use Rattle.std.proofs.Common.{◌≡◌, ◌-◌, length}
use Rattle.eager_machine.specs.Outboxes.{under_way, IsOutbox, IsSameSender}
use Rattle.eager_machine.proofs.sending.send_all.Given as goal

abbrev pub invariant-loop-out : goal.invariant-loop-out
invariant-loop-out l =
    record {
      sizes : l.lanes.sizes ≡ l.fn.lanes.sizes;
      way : under_way l.lanes l.out ≡ under_way l.fn.lanes l.fn.out;
      out : IsOutbox l.fn.lanes.sizes l.out;
      same : IsSameSender l.fn.out l.out;
    }

abbrev pub decreases-loop-out : goal.decreases-loop-out
decreases-loop-out l = length l.out.sends.list - l.out.moved
