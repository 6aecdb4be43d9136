-- What an event and a flush make of a box.
use Rattle.std.specs.Prelude.{◌≡◌, ◌⊎◌, ℕ, ◌+◌, Bool, [], ◌∷◌, ◌++◌, Option, Ok}
use Rattle.line_map.specs.Sizes.{home_of}
use Rattle.op_model.specs.declared.events.Class.{Class}
use Rattle.op_model.specs.declared.events.Event.{Event}
use Rattle.op_model.specs.declared.events.Event.TheVariants.{Hit, Issue, Evict, Take, Reclaim}
use Rattle.op_model.specs.declared.messages.Msg.{Msg}
use Rattle.op_model.specs.Events.Node.{NodeOutcome, TakeFrom}
use Rattle.op_model.specs.Parts.Part.{Part, put_lane, taken_from, logged, own_room}
use Rattle.op_model.specs.Parts.OwnStep.{after_outcome}
use Rattle.magic_node.specs.Nodes.{input_of}
use Rattle.magic_node.specs.declared.acts.LocalEvent.{LocalEvent}
use Rattle.magic_node.specs.declared.acts.LocalEvent.TheVariants as own
use Rattle.lane_table.specs.Steps.{freed}
use Rattle.lane_table.specs.Calls.{Flushes, FlushesNone}
use Rattle.node_box.specs.Boxes.{BoxView, outcome_at}

-- an event of a node's own, as an event of the machine
abbrev pub event_of : ℕ → LocalEvent → Event
event_of node own.Hit = Hit node
event_of node own.Issue = Issue node
event_of node (own.Evict line kind) = Evict node line kind
event_of node (own.Reclaim line) = Reclaim line

-- An eviction's message has room in its lane exactly where the node by itself counts so. A line of the node's own home leaves without a message
abbrev pub IsGate : Part → LocalEvent → Bool → Type 0
IsGate part (own.Evict line kind) room = (home_of part.sizes line ≡ part.number) ⊎ (room ≡ own_room part line)
IsGate part _ room = Unit {0}

-- the node made this event of its own
pub record Acts (old new : BoxView) (event : LocalEvent) (room : Bool) (ticket : ℕ) : Type 0 where
  pub out : NodeOutcome
  pub does : outcome_at old.node (input_of event room) ≡ Ok out
  pub part : new.seat.part ≡ logged (after_outcome old.seat.part old.seat.part.taken out) (record { ticket = ticket; event = event_of old.seat.part.number event })
  pub log : new.log.entries ≡ old.log.entries ++ record { ticket = ticket; event = event_of old.seat.part.number event } ∷ []

-- the node took this message, which its part had noted, and cleared its cell
pub record Takes (old new : BoxView) (src : ℕ) (class : Class) (m : Msg) (victim : Option ℕ) (ticket : ℕ) : Type 0 where
  pub out : NodeOutcome
  pub does : outcome_at old.node (TakeFrom src m victim) ≡ Ok out
  pub part : new.seat.part
      ≡ freed (logged (after_outcome old.seat.part (put_lane old.seat.part.taken src class (taken_from old.seat.part src class + 1)) out)
      (record { ticket = ticket; event = Take src old.seat.part.number class victim })) src class
  pub log : new.log.entries ≡ old.log.entries ++ record { ticket = ticket; event = Take src old.seat.part.number class victim } ∷ []

-- nothing but notes of cells and flushes
pub record IsSameNode (old new : BoxView) : Type 0 where
  pub node : new.node ≡ old.node
  pub log : new.log ≡ old.log

-- one lane was flushed, as far as its cell was empty
pub record FlushesLane (old new : BoxView) (dst : ℕ) (class : Class) : Type 0 where
  pub same : IsSameNode old new
  pub lane : Flushes old.seat.part new.seat.part dst class ⊎ FlushesNone old.seat.part new.seat.part dst class
