-- The lanes of an outbox as queues.
use Rattle.std.specs.Prelude.{◌≡◌, ℕ, ◌≤◌, List, length, map, All}
use Rattle.op_model.specs.declared.messages.Msg.{Msg}
use Rattle.msg_words.specs.QueueState.{QueueState}

-- a queue that may hold so many, and holds no more
abbrev pub IsWithin : ℕ → QueueState → Type 0
IsWithin bound queue = (queue.capacity ≡ bound) × (length queue.messages ≤ bound)

-- a queue for each node, of this capacity
pub record AreQueues (nodes bound : ℕ) (queues : List QueueState) : Type 0 where
  pub count : length queues ≡ nodes
  pub within : All (IsWithin bound) queues

abbrev pub lists_of : List QueueState → List (List Msg)
lists_of queues = map (λ queue. queue.messages) queues
