-- What the last event sent and isn't in its lanes yet.
use Rattle.std.specs.Prelude.{◌≡◌, ℕ, ◌+◌, ◌≤◌, ◌<◌, List, drop, length, All}
use Rattle.line_map.specs.Sizes.{Sizes}
use Rattle.op_model.specs.declared.messages.Msg.{Msg}
use Rattle.message_range.specs.Fitting.{IsSentOf}
use Rattle.eager_machine.specs.declared.sending.Outbox.{Outbox}
use Rattle.eager_machine.specs.Lanes.{AgedQueues, UnderWay, lane_in, sent_from}

-- the messages that are left
abbrev pub left_in : Outbox → List (ℕ × Msg)
left_in out = drop out.moved out.sends.list

-- all that is under way: what the lanes hold, and behind it what is left
abbrev pub under_way : AgedQueues → Outbox → UnderWay
under_way lanes out = sent_from out.node out.given (left_in out) (lane_in lanes)

-- messages of the machine from a node of it to nodes of it, with room for what an event may send
pub record IsOutbox (sizes : Sizes) (out : Outbox) : Type 0 where
  pub node : out.node < sizes.nodes
  pub room : out.sends.room ≡ sizes.nodes + 1
  pub moved : out.moved ≤ length out.sends.list
  pub sent : All (IsSentOf sizes) out.sends.list

-- what is left may be less, but is of the same node and of the same age
pub record IsSameSender (old new : Outbox) : Type 0 where
  pub node : new.node ≡ old.node
  pub given : new.given ≡ old.given
