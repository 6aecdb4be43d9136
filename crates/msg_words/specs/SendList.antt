-- The messages that a node sends at one event, in order, each with the node that it is for, and how many there is room for.
use Rattle.std.specs.Prelude.{ℕ, List}
use Rattle.op_model.specs.declared.messages.Msg.{Msg}

pub record SendList : Type 0 where
  pub list : List (ℕ × Msg)
  pub room : ℕ
