-- What a node sends comes to the ends of the lanes of its outbox.
use Rattle.std.specs.Prelude.{◌≡◌, ℕ, ◌<◌, List, ◌∷◌, ◌++◌, length}
use Rattle.op_model.specs.declared.events.Class.{Class}
use Rattle.op_model.specs.declared.messages.Msg.{Msg}
use Rattle.op_model.specs.Messages.{msg_class}
use Rattle.op_model.specs.Events.Step.{to_lane}
use Rattle.op_model.specs.Run.Bounds.{lane_bound}
use Rattle.out_space.specs.Boxes.{BoxState, waiting}

-- a message is for a node of the machine, and behind those put into its lane before it there is room for it
pub record HasSpace (out : BoxState) (before : List (ℕ × Msg)) (dst : ℕ) (m : Msg) : Type 0 where
  pub to : dst < out.sizes.nodes
  pub room : length (waiting out dst (msg_class m) ++ to_lane dst (msg_class m) before) < lane_bound out.sizes (msg_class m)

-- each message finds space behind those sent before it
abbrev pub HasRoomFor : BoxState → List (ℕ × Msg) → Type 0
HasRoomFor out sends = (before rest : List (ℕ × Msg)) (dst : ℕ) (m : Msg) → sends ≡ before ++ (dst, m) ∷ rest → HasSpace out before dst m

-- each lane got its messages of these, in order
pub record IsPut (old new : BoxState) (sends : List (ℕ × Msg)) : Type 0 where
  pub machine : new.sizes ≡ old.sizes
  pub lanes : (dst : ℕ) (class : Class) → waiting new dst class ≡ waiting old dst class ++ to_lane dst class sends
