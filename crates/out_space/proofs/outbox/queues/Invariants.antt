-- As many empty queues as there were turns, in room for a queue for each node.
use Rattle.std.proofs.Common.{◌≡◌, ◌≤◌, replicate, vec_capacity}
use Rattle.msg_words.specs.QueueState.{empty_queue}
use Rattle.out_space.proofs.outbox.queues.Given as goal

abbrev pub invariant-loop : goal.invariant-loop
invariant-loop l = (l.queues.items ≡ replicate l.counter (empty_queue l.capacity)) × (l.nodes ≤ vec_capacity l.queues)
