-- While what was set going by one operation settles: each Take leaves less to come, and no node but that of the operation has begun anything, so that no other operation is done.
use Rattle.std.proofs.Common.{◌≡◌, ℕ, ◌<◌, List, ◌∷◌, arith}
use Rattle.line_map.specs.Sizes.{Sizes}
use Rattle.op_model.specs.declared.events.Class.{Class}
use Rattle.op_model.specs.declared.messages.Msg.{Msg}
use Rattle.op_model.specs.Messages.{msg_content, msg_line}
use Rattle.op_model.specs.Lines.{Outcome}
use Rattle.op_model.specs.Shares.{Lanes, State, line_share}
use Rattle.lane_bounds.proofs.Public.{after_row_of, taken_of}
use Rattle.rest_laws.proofs.Public.{weight-sent, weight-taken, weight_by}
use Rattle.schedule_laws.proofs.Public.{AllUnder, IsTracked, Settles, all-settle, still, still-weight}
use Rattle.schedule_laws.proofs.Public.{tracked-after, under-front, under-sent, under-taken}
use Rattle.eager_schedule.proofs.Settled.{IsSettling}

-- how many messages are still taken
abbrev pub left_over : Sizes → State → ℕ
left_over sizes state = weight_by still sizes.nodes state.lane

-- While the operation of node p, begun at these places, settles: every message under way does
pub record IsCompleting (p : ℕ) (places : ℕ → ℕ) (state : State) : Type 0 where
  pub under : AllUnder Settles state.lane
  pub tracked : IsTracked p places state

-- one Take of a message that settles
module _ (sizes : Sizes) (state : State) (src dst : ℕ) (class : Class) (m : Msg) (rest : List Msg) (front : state.lane src dst class ≡ m ∷ rest) (outcome : Outcome)
    (settling : IsSettling (msg_content m) (line_share sizes (state.share dst) (msg_line m)) outcome) where
  abbrev taken : Lanes
  taken = taken_of src dst class rest state.lane

  abbrev next_state : State
  next_state = after_row_of sizes dst (msg_line m) outcome (record state { lane = taken })

  -- less is left over
  pub less-left : src < sizes.nodes → dst < sizes.nodes → left_over sizes next_state < left_over sizes state
  less-left src_in dst_in =
      let a = weight-sent still sizes.nodes taken dst (msg_line m) outcome.sends in
      let b = weight-taken still sizes.nodes state.lane src dst class m rest front src_in dst_in in
      let c = still-weight sizes.nodes outcome.sends in
      let d = settling.lighter in
      omega arith

  pub completing-after : (p : ℕ) (places : ℕ → ℕ) → IsCompleting p places state → IsCompleting p places next_state
  completing-after p places now =
      record {
        under = under-sent Settles dst (msg_line m) outcome.sends taken (under-taken Settles src dst class m rest state.lane front now.under) (all-settle outcome.sends settling.sends);
        tracked = tracked-after sizes state taken dst (msg_line m) outcome p places settling.unwanted (settling.wanted (under-front Settles src dst class m rest state.lane front now.under).1) now.tracked;
      }
