-- A lane by its first message: it leaves, or nothing does.
use Rattle.std.proofs.Common.{◌≡◌, ℕ, Bool, true, false, if◌then◌else◌, refl, ap, ◌∙◌, List, [], ◌∷◌, drop, Some, None, slice_get}
use Rattle.op_model.specs.declared.events.Class.{Class}
use Rattle.op_model.specs.declared.messages.Msg.{Msg}
use Rattle.op_model.specs.Messages.{msg_content}
use Rattle.op_model.specs.Events.Step.{is_departure}
use Rattle.lane_queues.specs.LaneStates.{LaneState, HasFront, with_lane, popped, same_lane}
use Rattle.lane_queues.proofs.LaneNumbers.{same_lane-is}

-- what is at the front is the first message
pub has_front : (messages : List Msg) (m : Msg) → Some m ≡ slice_get messages 0 → HasFront messages (is_departure (msg_content m))
has_front [] m is = cc
has_front (x ∷ messages) m is = let e : m ≡ x = cc in ap (λ y. is_departure (msg_content y)) e

-- nothing leaves an empty lane
pub popped_nothing : (state : LaneState) (src dst : ℕ) (class : Class) → None ≡ slice_get (state.lane src dst class) 0 → state ≡ popped state src dst class
popped_nothing state src dst class none = λ i. record state { lane = λ a b k. go a b k (same_lane src dst class a b k) (same_lane-is src dst class a b k) i }
  where
    shorter : (messages : List Msg) → None ≡ slice_get messages 0 → messages ≡ drop 1 messages
    shorter [] is = refl
    shorter (m ∷ messages) is = cc

    go : (a b : ℕ) (k : Class) (same : Bool) → (same ≡ true → (a ≡ src) × (b ≡ dst) × (k ≡ class)) → state.lane a b k ≡ (if same then drop 1 (state.lane src dst class) else state.lane a b k)
    go a b k true parts = let p = parts refl in rw (p.0, p.1, p.2) (shorter (state.lane src dst class) none)
    go a b k false parts = refl
