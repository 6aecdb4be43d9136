-- The moments of one operation's course, between two of its rows: a row that leaves what is begun keeps what is known of the moment; where all that a row sends settles, the rest is a round; and a forward finds the owner's copy.
use Rattle.std.proofs.Common.{◌≡◌, ◌≢◌, ℕ, ◌<◌, ◌≤◌, inr, Bool, true, false, ◌==◌, refl, arith, ap, sym, ◌∙◌, subst, is_some}
use Rattle.std.proofs.lemmas.Bool.{ne_eqb}
use Rattle.line_map.specs.Sizes.{Sizes, home_of}
use Rattle.op_model.specs.Lines.{LineShare, Outcome, Room, is_exclusive}
use Rattle.op_model.specs.Messages.{Content, FwdGet, FwdGetX, message}
use Rattle.op_model.specs.Shares.{Lanes, State, Trace, copy_of, line_share}
use Rattle.op_model.specs.Tables.Remote.{on_fwd_get, on_fwd_getx}
use Rattle.op_model.specs.Tables.Remote as delayed
use Rattle.lane_bounds.proofs.Public.{after_row_of, sent_of}
use Rattle.rest_laws.proofs.Public.{sends_weight, weight_by}
use Rattle.schedule_laws.proofs.Public.{AllSettle, AllUnder, AreEmpty, IsHandedOn, IsPassive, IsTracked}
use Rattle.schedule_laws.proofs.Public.{IsUsual, OnlyOne, Settles, all-settle, at-share, forward-row}
use Rattle.schedule_laws.proofs.Public.{forwardx-row, one-taken, sent-weight, still, still-weight}
use Rattle.schedule_laws.proofs.Public.{tracked-after, under-empty, under-sent}
use Rattle.eager_model.specs.Rows.{meets, on_message, row_of}
use Rattle.eager_model.specs.Runs.{Past}
use Rattle.eager_schedule.proofs.Rounds.{IsRound, settle}
use Rattle.eager_schedule.proofs.Runs.{IsReached}
use Rattle.eager_schedule.proofs.Settling.{left_over}
use Rattle.eager_schedule.proofs.Takes.{round-taken, row_at}

-- a forward meets its row elsewhere than at the home
met-forward : (me home src r : ℕ) (alone : Bool) (room : Room) (share : LineShare) → (me == home) ≡ false → on_message me home src alone room (FwdGet r) share ≡ on_fwd_get home r share
unfolding on_message meets row_of delayed.meets delayed.row_of
met-forward me home src r alone room share apart = rw apart refl

met-forwardx : (me home src r : ℕ) (alone : Bool) (room : Room) (share : LineShare) → (me == home) ≡ false → on_message me home src alone room (FwdGetX r) share ≡ on_fwd_getx home r share
unfolding on_message meets row_of delayed.meets delayed.row_of
met-forwardx me home src r alone room share apart = rw apart refl

-- the share of another node stays
pub share-away : (sizes : Sizes) (state then_state : State) (lane : Lanes) (dst line : ℕ) (outcome : Outcome) → then_state ≡ after_row_of sizes dst line outcome (record state { lane = lane }) → (n : ℕ) → n ≢ dst → then_state.share n ≡ state.share n
share-away sizes state then_state lane dst line outcome is n apart = ap (λ s. s.share n) is ∙ at-share sizes state lane dst line outcome (λ s. s ≡ state.share n) n (λ _. refl) (λ same. absurd (apart same))

module _ (trace : Trace) (usual : IsUsual trace) (p : ℕ) (places : ℕ → ℕ) where
  abbrev sizes : Sizes
  sizes = trace.sizes

  abbrev Round : Past → ℕ → Type 0
  Round past most = IsRound trace usual p places past most

  module _ (state : State) (lane : Lanes) (dst line : ℕ) (outcome : Outcome) (then : Past) (is : then.state ≡ after_row_of sizes dst line outcome (record state { lane = lane })) where
    -- a row that leaves what is begun
    pub tracked-passive : IsPassive (line_share sizes (state.share dst) line) outcome → IsTracked p places state → IsTracked p places then.state
    tracked-passive passive tracked =
        subst (IsTracked p places) (sym is) (tracked-after sizes state lane dst line outcome p places (λ none. (passive.0 ∙ none, passive.1)) (λ some. inr (passive.1, ap is_some passive.0 ∙ some)) tracked)

    -- where all that is sent settles, it is a round
    pub round-sent : (most : ℕ) → AreEmpty lane → IsReached trace then → IsTracked p places then.state → AllSettle outcome.sends → sends_weight still sizes.nodes outcome.sends ≤ most → Round then most
    round-sent most empty reached tracked all light =
        settle trace usual p places most then reached
        (record { under = subst (λ (s : State). AllUnder Settles s.lane) (sym is) (under-sent Settles dst line outcome.sends lane (under-empty Settles lane empty) (all-settle outcome.sends all)); tracked = tracked })
        (let a = sent-weight sizes.nodes dst line outcome.sends lane empty in
        let b : left_over sizes then.state ≡ weight_by still sizes.nodes (sent_of dst line outcome.sends lane) = ap (λ (s : State). weight_by still sizes.nodes s.lane) is in
        omega arith)

  -- a forward that is the only message under way
  module _ (past : Past) (reached : IsReached trace past) (tracked : IsTracked p places past.state) (line o : ℕ) (home_in : home_of trace.sizes line < trace.sizes.nodes) (o_in : o < trace.sizes.nodes) (apart : o ≢ home_of trace.sizes line)
      (has : is_exclusive (copy_of (past.state.share o) line) ≡ true) where
    abbrev home : ℕ
    home = home_of sizes line

    abbrev share : LineShare
    share = line_share sizes (past.state.share o) line

    -- what the owner hands on settles
    handed : (content : Content) → OnlyOne home o (message line content) past.state.lane → IsHandedOn share (row_at sizes (past.state.share o) o home line content) → Round past 3
    handed content only it =
        round-taken trace usual past reached home o line content only home_in o_in p places 2
        (λ then reached_then is.
        let weight = still-weight sizes.nodes (row_at sizes (past.state.share o) o home line content).sends in
        let few = it.1 in
        round-sent past.state _ o line (row_at sizes (past.state.share o) o home line content) then is 2 (one-taken home o (message line content) past.state.lane only) reached_then
        (tracked-passive past.state _ o line (row_at sizes (past.state.share o) o home line content) then is it.2 tracked) it.0 (omega arith))

    pub round-forward : (r : ℕ) → OnlyOne home o (message line (FwdGet r)) past.state.lane → Round past 3
    round-forward r only = handed (FwdGet r) only (subst (IsHandedOn share) (sym (met-forward o home home r _ _ share (ne_eqb o home apart))) (forward-row home r share has))

    pub round-forwardx : (r : ℕ) → OnlyOne home o (message line (FwdGetX r)) past.state.lane → Round past 3
    round-forwardx r only = handed (FwdGetX r) only (subst (IsHandedOn share) (sym (met-forwardx o home home r _ _ share (ne_eqb o home apart))) (forwardx-row home r share has))
