-- A queue of messages: how many it may hold, and its messages from the front.
use Rattle.std.specs.Prelude.{ℕ, List, []}
use Rattle.op_model.specs.declared.messages.Msg.{Msg}

pub record QueueState : Type 0 where
  pub capacity : ℕ
  pub messages : List Msg

abbrev pub empty_queue : ℕ → QueueState
empty_queue capacity = record { capacity = capacity; messages = [] }
