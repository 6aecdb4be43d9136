-- The only message under way is delivered: its row is done, and nothing else.
use Rattle.std.proofs.Common.{◌≡◌, ℕ, suc, ◌<◌, true, List, [], ◌∷◌, sym, ◌∙◌, subst, Some, None, Ok}
use Rattle.line_map.specs.Sizes.{Sizes, home_of}
use Rattle.op_model.specs.declared.messages.Msg.{Msg}
use Rattle.op_model.specs.Lines.{Outcome}
use Rattle.op_model.specs.Messages.{Content, message, msg_class, msg_content, msg_content-message, msg_line, msg_line-message}
use Rattle.op_model.specs.Run.Schedules.{Lane, delivery, first_busy}
use Rattle.op_model.specs.Shares.{Lanes, Share, State, Trace, Unlinked, is_set_empty, line_share, program, room_of}
use Rattle.lane_bounds.proofs.Public.{after_row_of, taken_of}
use Rattle.schedule_laws.proofs.Public.{IsUsual, OnlyOne, first-one, one-front, same-front}
use Rattle.eager_model.specs.Node.{meets_row}
use Rattle.eager_model.specs.Rows.{meets, on_message}
use Rattle.eager_model.specs.Runs.{Past, past_after}
use Rattle.eager_model.specs.Step.{effect}
use Rattle.eager_history.proofs.Public.{sound-meets, sound-run}
use Rattle.eager_part.proofs.Public.{each-taken, own-run}
use Rattle.eager_rest.proofs.Public.{delivery-done, delivery-takes}
use Rattle.eager_schedule.proofs.Rounds.{IsRound, delivers, round-after}
use Rattle.eager_schedule.proofs.Runs.{IsReached, reached-event}

-- the row of a message that says this of a line
abbrev pub row_at : Sizes → Share → ℕ → ℕ → ℕ → Content → Outcome
row_at sizes share me src line content = on_message me (home_of sizes line) src (is_set_empty sizes share line) (room_of Unlinked sizes share) content (line_share sizes share line)

module _ (trace : Trace) (usual : IsUsual trace) (past : Past) (reached : IsReached trace past) (node to line : ℕ) (content : Content)
    (only : OnlyOne node to (message line content) past.state.lane) (node_in : node < trace.sizes.nodes) (to_in : to < trace.sizes.nodes) where
  abbrev sizes : Sizes
  sizes = trace.sizes

  abbrev state : State
  state = past.state

  abbrev share : Share
  share = state.share to

  abbrev m : Msg
  m = message line content

  abbrev taken : Lanes
  taken = taken_of node to (msg_class m) [] state.lane

  -- the state after the row of a message of this line and content
  abbrev after_of : ℕ → Content → State
  after_of l c = after_row_of sizes to l (row_at sizes share to node l c) (record state { lane = taken })

  abbrev lane : Lane
  lane = record { src = node; dst = to; class = msg_class m }

  busy : first_busy sizes state ≡ Some lane
  busy = first-one sizes state node to m only node_in to_in

  -- the message meets a row
  pub only-meets : meets to (home_of sizes line) node (is_set_empty sizes share line) content (line_share sizes share line) ≡ true
  unfolding meets_row
  only-meets =
      subst (λ c. meets to (home_of sizes line) node (is_set_empty sizes share line) c (line_share sizes share line) ≡ true) (msg_content-message line content)
      (subst (λ l. meets to (home_of sizes l) node (is_set_empty sizes share l) (msg_content m) (line_share sizes share l) ≡ true) (msg_line-message line content)
      (sound-meets trace past (sound-run trace reached.0 past usual.words reached.1) node to (msg_class m) m [] (one-front node to m state.lane only)))

  -- what is so of the message at the front is so of the only one
  at-front : (P : Msg → List Msg → Type 0) → P m [] → (other : Msg) (rest : List Msg) → state.lane node to (msg_class m) ≡ other ∷ rest → P other rest
  at-front P it other rest front =
      let same = same-front m other rest (sym front ∙ one-front node to m state.lane only) in
      subst (λ r. P other r) same.1 (subst (λ x. P x []) same.0 it)

  module _ (p : ℕ) (places : ℕ → ℕ) (most : ℕ) where
    abbrev Later : State → Type 0
    Later then_state = (then : Past) → IsReached trace then → then.state ≡ then_state → IsRound trace usual p places then most

    -- it is taken, and then comes a round
    pub round-taken : Later (after_of line content) → IsRound trace usual p places past (suc most)
    round-taken later =
        let does = delivery-done trace past (own-run trace reached.0 past reached.1) lane busy in
        let then : Past = past_after sizes past does.0 in
        let at : then.state ≡ after_of (msg_line m) (msg_content m) =
        each-taken sizes (program trace) state (λ s. s ≡ after_of (msg_line m) (msg_content m)) past.ages node to (msg_class m) None
        (at-front (λ x r. after_row_of sizes to (msg_line x) (row_at sizes share to node (msg_line x) (msg_content x)) (record state { lane = taken_of node to (msg_class m) r state.lane }) ≡ after_of (msg_line m) (msg_content m)) (λ i. after_of (msg_line m) (msg_content m)))
        does.0 (subst (λ e. effect sizes (program trace) state past.ages e ≡ Ok does.0) (delivery-takes sizes state lane) does.1) in
        round-after trace usual p places past most (delivery Unlinked sizes state lane) does.0 (delivers trace state lane busy) does.1
        (later then (reached-event trace past reached (delivery Unlinked sizes state lane) does.0 does.1) (at ∙ (λ i. after_of (msg_line-message line content i) (msg_content-message line content i))))
