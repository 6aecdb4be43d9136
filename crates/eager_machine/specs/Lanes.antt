-- What is under way: the messages of each lane, each with the age of its words.
use Rattle.std.specs.Prelude.{◌≡◌, ℕ, ◌≤◌, ◌<◌, if◌then◌else◌, ◌&&◌, ◌==◌, nat_lt, List, [], ◌++◌, drop, map, All, slice_index_or}
use Rattle.line_map.specs.Sizes.{Sizes}
use Rattle.op_model.specs.declared.events.Class.{Class}
use Rattle.op_model.specs.declared.events.Event.{Event}
use Rattle.op_model.specs.declared.messages.Msg.{Msg}
use Rattle.op_model.specs.Messages.{msg_content}
use Rattle.op_model.specs.Shares.{Lanes}
use Rattle.eager_model.specs.Ages.{sent_age}
use Rattle.lane_queues.specs.LaneStates.{same_lane}
use Rattle.lane_queues.specs.Queues.{lane_number}
pub use Rattle.machine.specs.Acts.{taken_off}
use Rattle.machine.specs.Acts.{sent_by}
use Rattle.eager_machine.specs.declared.queue.AgedMsg.{AgedMsg}

abbrev pub msg_of : AgedMsg → Msg
msg_of aged = aged.msg

abbrev pub age_of : AgedMsg → ℕ
age_of aged = aged.age

-- the messages of each lane, from the front
abbrev pub UnderWay : Type 0
UnderWay = ℕ → ℕ → Class → List AgedMsg

-- the lanes of a machine as one list of queues
pub record AgedQueues : Type 0 where
  pub sizes : Sizes
  pub lists : List (List AgedMsg)

-- the queue of a lane stands at its number. There is none from or to a node that the machine doesn't have
abbrev pub lane_in : AgedQueues → UnderWay
lane_in queues src dst class =
    if nat_lt src queues.sizes.nodes && nat_lt dst queues.sizes.nodes then slice_index_or queues.lists (lane_number queues.sizes.nodes src dst class) [] else []

-- one lane holds these messages in the place of its own
abbrev pub with_lane : UnderWay → ℕ → ℕ → Class → List AgedMsg → UnderWay
with_lane way src dst class messages a b k = if same_lane src dst class a b k then messages else way a b k

-- without the ages, and the ages alone
abbrev pub messages_of : UnderWay → Lanes
messages_of way a b class = map msg_of (way a b class)

abbrev pub lane_ages : UnderWay → ℕ → ℕ → Class → List ℕ
lane_ages way a b class = map age_of (way a b class)

-- a message that a node sends, where the words given have this age
abbrev pub with_age : ℕ → Msg → AgedMsg
with_age given m = record { msg = m; age = sent_age given (msg_content m) }

-- the lanes with what a node has sent behind what they held
abbrev pub sent_from : ℕ → ℕ → List (ℕ × Msg) → UnderWay → UnderWay
sent_from node given sends way a b class = sent_by (map (with_age given)) node sends way a b class

-- no message has an age above this one
abbrev pub AreFresh : ℕ → UnderWay → Type 0
AreFresh bound way = (a b : ℕ) (class : Class) → All (λ aged. aged.age ≤ bound) (way a b class)

-- nothing is under way from this node
abbrev pub IsSilent : UnderWay → ℕ → Type 0
IsSilent way a = (b : ℕ) (class : Class) → way a b class ≡ []

-- a lane between nodes of the machine, by its parts
abbrev pub IsBetween : Sizes → (ℕ × ℕ × Class) → Type 0
IsBetween sizes lane = (lane.0 < sizes.nodes) × (lane.1 < sizes.nodes)
