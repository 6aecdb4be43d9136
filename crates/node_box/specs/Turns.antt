-- What a turn of a controller does.
use Rattle.std.specs.Prelude.{◌≡◌, ◌≢◌, ◌⊎◌, ℕ, [], ◌+◌, ◌*◌, ◌<◌, Bool, true, if◌then◌else◌, Option, Some, None, option_map, IsOk}
use Rattle.op_model.specs.declared.events.Class.{Class}
use Rattle.op_model.specs.declared.messages.Msg.{Msg}
use Rattle.op_model.specs.Shares.{Linked}
use Rattle.op_model.specs.Events.Node.{ReclaimLine, asks_victim}
use Rattle.op_model.specs.Run.Seeded.{free_links, low_water}
use Rattle.sharer_dir.specs.Linked.{line_with}
use Rattle.magic_node.specs.declared.acts.LocalEvent.TheVariants as own
use Rattle.lane_table.specs.Calls.{Finds}
use Rattle.lane_table.specs.Told.{unflushed}
use Rattle.node_box.specs.declared.turns.Turn.{Turn}
use Rattle.node_box.specs.declared.turns.Turn.TheVariants.{Did, Idle, Memory}
use Rattle.node_box.specs.Boxes.{LinkedNode, BoxView, outcome_at}
use Rattle.node_box.specs.Events.{Acts, Takes}
use Rattle.node_box.specs.Lanes.{OnlyLooks, AreFlushed, AreEmpty, IsLaneServed, IsFoundEmpty}

-- the line of a home in whose list a link stands, and none where the link is free
abbrev pub line_by_link : LinkedNode → ℕ → Option ℕ
line_by_link node link = option_map (λ m. node.number * node.sizes.lines + m) (line_with node.dir link)

-- whether a message calls a line in: a Get that is refused for want of a link
abbrev pub asks : LinkedNode → ℕ → Msg → Bool
asks node src m = asks_victim Linked node.sizes node.number node.share src m

-- the victim of a message is the line of a link where the message calls one in, and else there is none
abbrev pub victim_by : LinkedNode → (link src : ℕ) → Msg → Option ℕ
victim_by node link src m = if asks node src m then line_by_link node link else None

-- A message was found in a lane, after looks at others, and taken
pub record TakesOne (old new : BoxView) (link ticket : ℕ) : Type 0 where
  pub before : BoxView
  pub found : BoxView
  pub src : ℕ
  pub class : Class
  pub msg : Msg
  pub victim : Option ℕ
  pub looks : OnlyLooks old before
  pub finds : Finds before.seat.part found.seat.part src class msg
  pub only : OnlyLooks before found
  pub by_link : victim ≡ victim_by found.node link src msg
  pub takes : Takes found new src class msg victim ticket

-- the line of a link is due to be called in: few links are free, and nothing refuses it
pub record IsDue (box : BoxView) (link line : ℕ) : Type 0 where
  pub line_of : line_by_link box.node link ≡ Some line
  pub low : free_links Linked box.node.sizes box.node.share < low_water box.node.sizes.links
  pub goes : IsOk (outcome_at box.node (ReclaimLine line))

-- that line was called in
pub record Reclaims (old new : BoxView) (link ticket : ℕ) : Type 0 where
  pub line : ℕ
  pub line_of : line_by_link old.node link ≡ Some line
  pub low : free_links Linked old.node.sizes old.node.share < low_water old.node.sizes.links
  pub acts : Acts old new (own.Reclaim line) true ticket

-- Each lane of requests and replies that had a message waiting was flushed. Then a message was found and taken, or every lane was found
-- empty and the line of the link was called in
pub record Controls (nodes : ℕ) (old new : BoxView) (link ticket : ℕ) : Type 0 where
  pub flushed : BoxView
  pub flushes : AreFlushed old flushed (nodes * 2)
  pub does : TakesOne flushed new link ticket ⊎ ((empty : BoxView) × AreEmpty flushed empty 0 (nodes * 2) × Reclaims empty new link ticket)

-- Or every lane was found empty, and the line of the link isn't due
pub record IsIdle (nodes : ℕ) (old new : BoxView) (link : ℕ) : Type 0 where
  pub flushed : BoxView
  pub flushes : AreFlushed old flushed (nodes * 2)
  pub empty : AreEmpty flushed new 0 (nodes * 2)
  pub undue : (line : ℕ) → IsDue new link line → ⊥

-- each outgoing lane that had a message waiting was served
abbrev pub AreServed : (nodes : ℕ) (old new : BoxView) → Type 0
AreServed nodes old new = (dst : ℕ) (class : Class) → dst < nodes → unflushed old.seat.part dst class ≢ [] → IsLaneServed old.seat.part new.seat.part dst class

-- the header word of each incoming lane was loaded and was 0
abbrev pub AreFoundEmpty : (nodes : ℕ) (old new : BoxView) → Type 0
AreFoundEmpty nodes old new = (src : ℕ) (class : Class) → src < nodes → IsFoundEmpty old.seat.part new.seat.part src class

-- nothing changed but the log's room
pub record IsReserved (old new : BoxView) : Type 0 where
  pub entries : new.log.entries ≡ old.log.entries
  pub box : new ≡ record old { log = new.log }

-- A controller's turn made one event, with this ticket; or none, and nothing is left for it to do; or it lacked memory and changed nothing
abbrev pub IsControllerTurn : (nodes : ℕ) → Turn → (old new : BoxView) → (link : ℕ) → Type 0
IsControllerTurn nodes (Did ticket) old new link = (reserved : BoxView) × IsReserved old reserved × Controls nodes reserved new link ticket × AreServed nodes old new
IsControllerTurn nodes Idle old new link = (reserved : BoxView) × IsReserved old reserved × IsIdle nodes reserved new link × AreServed nodes old new × AreFoundEmpty nodes old new
IsControllerTurn nodes Memory old new link = new ≡ old
IsControllerTurn nodes _ old new link = ⊥
