-- The lanes with the set of those that hold a message.
use Rattle.std.specs.Prelude.{◌≡◌, ℕ, ◌≤◌, ◌<◌, List, length}
use Rattle.op_model.specs.declared.events.Class.{Class}
use Rattle.lane_queues.specs.BusyLanes.{marks_of}
use Rattle.lane_queues.specs.FirstBusy.{busy_in}
use Rattle.lane_queues.specs.Queues.{lane_count}
use Rattle.eager_machine.specs.Lanes.{AgedQueues, lane_in, messages_of}

-- one queue a lane, and the lanes that hold a message are marked
pub record AreMarked (queues : AgedQueues) (masks : List ℕ) : Type 0 where
  pub count : length queues.lists ≡ lane_count queues.sizes.nodes
  pub few : queues.sizes.nodes ≤ 64
  pub marks : (src dst : ℕ) (class : Class) → src < 64 → dst < 64 → marks_of masks src dst class ≡ busy_in (messages_of (lane_in queues)) src dst class
