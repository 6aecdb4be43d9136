-- A course of a schedule: a list of events, each the next one of the schedule at its place, and what an operation's course comes to.
use Rattle.std.specs.Prelude.{◌≡◌, ◌≤◌, ◌≢◌, ℕ, suc, ◌+◌, ◌*◌, Bool, true, false, if◌then◌else◌, List, [], ◌∷◌, length, sum_by, ◌-◌, Option, Some, Ok}
use Rattle.line_map.specs.Sizes.{Sizes}
use Rattle.op_model.specs.declared.operations.Op.{Op}
use Rattle.op_model.specs.declared.events.Event.{Event}
use Rattle.op_model.specs.declared.messages.Msg.{Msg}
use Rattle.op_model.specs.Messages.{Content, Nak, msg_content}
use Rattle.op_model.specs.Shares.{Charge, State}
use Rattle.op_model.specs.Events.Step.{Programs, Done, effect}
use Rattle.op_model.specs.Run.Runs.{Past, past_after}
use Rattle.op_model.specs.Run.Rest.{IsAtRest}
use Rattle.op_model.specs.Run.Counts.{Moment, moments}
use Rattle.op_model.specs.Run.Schedules.{first_busy, lane_or_next, all_nodes}

-- a schedule that delivers what is under way, and at rest goes on with the operation that it chooses
abbrev pub next_by : (State → Option Op) → Charge → Sizes → Programs → State → Option Event
next_by chosen charge sizes programs state = lane_or_next charge sizes programs state (chosen state) (first_busy sizes state)

-- the events lead from one moment to another, and each is the schedule's next one at its place
abbrev pub IsCourse : (State → Option Event) → Charge → Sizes → Programs → Past → List Event → Past → Type 0
IsCourse next charge sizes programs past [] end = past ≡ end
IsCourse next charge sizes programs past (event ∷ events) end =
    (next past.state ≡ Some event) × (done : Done) × (effect charge sizes programs past.state event ≡ Ok done) × IsCourse next charge sizes programs (past_after sizes past done) events end

abbrev pub is_any_nak : Content → Bool
is_any_nak (Nak cause) = true
is_any_nak _ = false

abbrev pub naks_in : List (ℕ × Msg) → ℕ
naks_in [] = 0
naks_in (send ∷ sends) = (if is_any_nak (msg_content send.1) then 1 else 0) + naks_in sends

-- how many Naks an event sends
abbrev pub naks_sent : Done → ℕ
naks_sent done = naks_in done.out.sends

-- how many Naks the events of a list send, from a state on
abbrev pub nak_count : Charge → Sizes → Programs → State → List Event → ℕ
nak_count charge sizes programs state events = sum_by (λ (m : Moment). naks_sent m.done) (moments charge sizes programs state events)

-- how many operations a node has left, and all nodes have
abbrev pub left_at : Programs → State → ℕ → ℕ
left_at programs state node = length (programs node) - (state.share node).place

abbrev pub left_count : Sizes → Programs → State → ℕ
left_count sizes programs state = sum_by (left_at programs state) (all_nodes sizes)

-- The schedule completes this operation, within 2N + 8 events that send at most one Nak, completes no other, and is at rest again
pub record IsCompleted (next : State → Option Event) (charge : Charge) (sizes : Sizes) (programs : Programs) (past : Past) (op : Op) : Type 0 where
  pub events : List Event
  pub end : Past
  pub course : IsCourse next charge sizes programs past events end
  pub within : length events ≤ 2 * sizes.nodes + 8
  pub naks : nak_count charge sizes programs past.state events ≤ 1
  pub rests : IsAtRest end.state
  pub done : (end.state.share op.node).place ≡ suc (past.state.share op.node).place
  pub others : (node : ℕ) → node ≢ op.node → (end.state.share node).place ≡ (past.state.share node).place
