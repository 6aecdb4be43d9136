-- An answer before which no lane is busy is the one of the definition, and there is none exactly where all lanes are empty.
use Rattle.std.proofs.Common.{◌≡◌, ℕ, ◌<◌, ◌≤◌, ◌↔◌, true, false, [], Option, Some, None, IsNone, refl, sym, ◌⊎◌, inl, inr}
use Rattle.std.specs.Option.{option_map}
use Rattle.line_map.specs.Sizes.{Sizes}
use Rattle.op_model.specs.declared.events.Class.{Class}
use Rattle.op_model.specs.Shares.{Lanes}
use Rattle.op_model.specs.Run.Schedules.{Lane, first_busy_in, next_busy_in}
use Rattle.op_model.proofs.Public.{no_message-empty}
use Rattle.lane_queues.specs.LaneStates.{AreEmpty}
use Rattle.lane_queues.specs.FirstBusy.{lane_named, busy_in, behind, AnswersFirst}
use Rattle.lane_queues.specs.Queues.{Queues, lane_in, meaning_of}
use Rattle.lane_queues.proofs.LaneOrder.{first_busy-none, first_busy-some, marked-none, marked-some}
use Rattle.lane_queues.proofs.Meaning.{lane_in-outside, inside_or_not}

pub answer_defined : (sizes : Sizes) (lanes : Lanes) (answer : Option (ℕ × ℕ × Class)) → AnswersFirst sizes.nodes (busy_in lanes) answer → option_map lane_named answer ≡ first_busy_in sizes lanes
answer_defined sizes lanes None quiet = sym (first_busy-none sizes lanes quiet)
answer_defined sizes lanes (Some lane) is = sym (first_busy-some sizes lanes lane.0 lane.1 lane.2 is)

pub next_defined : (sizes : Sizes) (lanes : Lanes) (here : Lane) (answer : Option (ℕ × ℕ × Class)) → AnswersFirst sizes.nodes (behind here (busy_in lanes)) answer → option_map lane_named answer ≡ next_busy_in sizes lanes here
next_defined sizes lanes here None quiet = sym (marked-none sizes (behind here (busy_in lanes)) quiet)
next_defined sizes lanes here (Some lane) is = sym (marked-some sizes (behind here (busy_in lanes)) lane.0 lane.1 lane.2 is)

pub answer_none : (queues : Queues) (answer : Option (ℕ × ℕ × Class)) → AnswersFirst queues.sizes.nodes (busy_in (lane_in queues)) answer → IsNone answer ↔ AreEmpty (meaning_of queues)
answer_none queues None quiet = (λ none src dst class. go src dst class (inside_or_not src dst queues.sizes.nodes), λ empty. refl)
  where
    go : (src dst : ℕ) (class : Class) → ((src < queues.sizes.nodes) × (dst < queues.sizes.nodes)) ⊎ ((queues.sizes.nodes ≤ src) ⊎ (queues.sizes.nodes ≤ dst)) → lane_in queues src dst class ≡ []
    go src dst class (inl inside) = no_message-empty (lane_in queues src dst class) (quiet src inside.0 dst class inside.1)
    go src dst class (inr out) = lane_in-outside queues src dst class out
answer_none queues (Some lane) is = (λ none. absurd (let never : true ≡ false = none in cc), λ empty. absurd (let some = is.first.marked in let e = empty lane.0 lane.1 lane.2 in let never : false ≡ true = rw e at some in cc))
