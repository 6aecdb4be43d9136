-- What a turn of a controller makes of the lanes of its node.
use Rattle.std.specs.Prelude.{◌≡◌, ◌≢◌, ◌⊎◌, ℕ, ◌+◌, ◌*◌, ◌<◌, ◌≤◌, []}
use Rattle.op_model.specs.declared.events.Class.{Class}
use Rattle.op_model.specs.declared.events.Class.TheVariants.{Request, Reply}
use Rattle.op_model.specs.Parts.Part.{Part, ByLane, Note, flushed_to, out_note, in_note}
use Rattle.lane_table.specs.Told.{unflushed}
use Rattle.node_box.specs.Boxes.{BoxView}
use Rattle.node_box.specs.Events.{IsSameNode}

-- the place of a node's lane to or from another node, among its lanes
abbrev pub lane_place : ℕ → Class → ℕ
lane_place node Request = node * 2
lane_place node Reply = node * 2 + 1

-- the lane's first message went to its cell, or the header word that was loaded once more wasn't 0
abbrev pub IsLaneServed : (old new : Part) → ℕ → Class → Type 0
IsLaneServed old new dst class =
    (flushed_to new dst class ≡ flushed_to old dst class + 1) ⊎ (((out_note new dst class).loads ≡ (out_note old dst class).loads + 1) × ((out_note new dst class).word ≢ 0))

-- nothing of a part changed but what is flushed, and what is noted of the cells of outgoing lanes
pub record OnlyFlushes (old new : Part) : Type 0 where
  pub flushed : ByLane ℕ
  pub notes : ByLane Note
  pub is : new ≡ record old { flushed = flushed; out_notes = notes }

-- each of the first so many lanes that had a message waiting was served, and the others are as they were
pub record AreFlushed (old new : BoxView) (places : ℕ) : Type 0 where
  pub same : IsSameNode old new
  pub only : OnlyFlushes old.seat.part new.seat.part
  pub served : (dst : ℕ) (class : Class) → lane_place dst class < places → unflushed old.seat.part dst class ≢ [] → IsLaneServed old.seat.part new.seat.part dst class
  pub rest : (dst : ℕ) (class : Class) → places ≤ lane_place dst class
      → (flushed_to new.seat.part dst class ≡ flushed_to old.seat.part dst class) × (out_note new.seat.part dst class ≡ out_note old.seat.part dst class)

-- the header word of an incoming lane was loaded once more, and was 0
abbrev pub IsFoundEmpty : (old new : Part) → ℕ → Class → Type 0
IsFoundEmpty old new src class = ((in_note new src class).loads ≡ (in_note old src class).loads + 1) × ((in_note new src class).word ≡ 0)

-- nothing of a box changed but what is noted of the cells of incoming lanes
pub record OnlyLooks (old new : BoxView) : Type 0 where
  pub notes : ByLane Note
  pub part : new.seat.part ≡ record old.seat.part { in_notes = notes }
  pub box : new ≡ record old { seat = new.seat }

-- each lane at a place from the first to the one before the end was found empty, and the others are as they were
pub record AreEmpty (old new : BoxView) (first end : ℕ) : Type 0 where
  pub only : OnlyLooks old new
  pub empty : (src : ℕ) (class : Class) → first ≤ lane_place src class → lane_place src class < end → IsFoundEmpty old.seat.part new.seat.part src class
  pub rest : (src : ℕ) (class : Class) → (lane_place src class < first) ⊎ (end ≤ lane_place src class) → in_note new.seat.part src class ≡ in_note old.seat.part src class
