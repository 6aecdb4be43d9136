-- The moments of one operation's course, between two of its rows: each row keeps what is known of the moment, and where all that it sends
-- settles, the rest is a round.
use Rattle.std.proofs.Common.{◌≡◌, ◌≢◌, ℕ, ◌+◌, ◌≤◌, inr, true, false, cond, ◌==◌, refl, arith, ap, sym, ◌∙◌, subst, Option, is_some}
use Rattle.std.proofs.lemmas.Bool.Decides.{nat_tests}
use Rattle.line_map.specs.Sizes.{Sizes, home_of}
use Rattle.op_model.specs.declared.events.Event.{Event}
use Rattle.op_model.specs.Lines.{Outcome}
use Rattle.op_model.specs.Run.Runs.{Past}
use Rattle.op_model.specs.Shares.{Charge, Lanes, State, Trace, header_of, share_at}
use Rattle.lane_bounds.proofs.Public.{after_row_of, sent_of}
use Rattle.rest_laws.proofs.Public.{sends_weight, weight_by}
use Rattle.schedule_laws.proofs.Known.{Delivers, IsKnown, IsUsual}
use Rattle.schedule_laws.proofs.Requests.{IsPassive}
use Rattle.schedule_laws.proofs.Rounds.{IsRound, round-settled}
use Rattle.schedule_laws.proofs.Settled.{AllSettle, grants, still}
use Rattle.schedule_laws.proofs.Settling.{IsTracked, Settles, all-settle, at-share, grants_at, header-there, tracked-after, wait-other}
use Rattle.schedule_laws.proofs.Single.{AreEmpty, sent-weight, under-empty}
use Rattle.schedule_laws.proofs.Under.{AllUnder, under-sent}

module _ (charge : Charge) (trace : Trace) (usual : IsUsual trace) (next : State → Option Event) (delivers : Delivers charge trace usual next) (p line : ℕ) (places : ℕ → ℕ) where
  abbrev sizes : Sizes
  sizes = trace.sizes

  -- a moment of the course of node p's operation on this line
  pub record IsStage (past : Past) : Type 0 where
    pub known : IsKnown charge trace past
    pub tracked : IsTracked p places past.state
    pub granted : (g : ℕ) → g ≢ line → grants_at sizes past.state g ≡ 0

  module _ (state : State) (lane : Lanes) (dst : ℕ) (outcome : Outcome) (then : Past) (known : IsKnown charge trace then) (is : then.state ≡ after_row_of sizes dst line outcome (record state { lane = lane })) where
    -- a row of the line leaves the waits of other lines
    pub granted-then : ((g : ℕ) → g ≢ line → grants_at sizes state g ≡ 0) → (g : ℕ) → g ≢ line → grants_at sizes then.state g ≡ 0
    granted-then granted g apart = ap (λ s. grants_at sizes s g) is ∙ ap (λ h. grants h.wait) (wait-other sizes state lane dst line outcome g apart) ∙ granted g apart

    -- the line's own wait, at its home and elsewhere
    pub grants-home : dst ≡ home_of sizes line → grants_at sizes then.state line ≡ grants outcome.share.header.wait
    grants-home same =
        let at : (dst == home_of sizes line) ≡ true = grind (arith, nat_tests) in
        ap (λ s. grants_at sizes s line) is ∙ ap (λ h. grants h.wait) (header-there sizes state lane dst line outcome ∙ ap (λ c. cond c outcome.share.header (header_of sizes (state.share (home_of sizes line)) line)) at)

    pub header-away : dst ≢ home_of sizes line → header_of sizes (then.state.share (home_of sizes line)) line ≡ header_of sizes (state.share (home_of sizes line)) line
    header-away apart =
        let at : (dst == home_of sizes line) ≡ false = grind (arith, nat_tests) in
        ap (λ s. header_of sizes (s.share (home_of sizes line)) line) is ∙ header-there sizes state lane dst line outcome ∙ ap (λ c. cond c outcome.share.header (header_of sizes (state.share (home_of sizes line)) line)) at

    -- the share of another node stays
    pub share-away : (n : ℕ) → n ≢ dst → then.state.share n ≡ state.share n
    share-away n apart = ap (λ s. s.share n) is ∙ at-share sizes state lane dst line outcome (λ s. s ≡ state.share n) n (λ _. refl) (λ same. absurd (apart same))

    -- a row that leaves what is begun
    pub stage-passive : IsPassive (share_at sizes state dst line) outcome → IsTracked p places state → ((g : ℕ) → g ≢ line → grants_at sizes state g ≡ 0) → IsStage then
    stage-passive passive tracked granted =
        record {
          known = known;
          tracked = subst (IsTracked p places) (sym is) (tracked-after sizes state lane dst line outcome p places (λ none. (passive.0 ∙ none, passive.1)) (λ some. inr (passive.1, ap is_some passive.0 ∙ some)) tracked);
          granted = granted-then granted;
        }

    -- where all that is sent settles, it is a round
    pub round-sent : (most : ℕ) → AreEmpty lane → IsStage then → AllSettle outcome.sends → sends_weight still sizes.nodes outcome.sends + grants_at sizes then.state line ≤ most → IsRound charge trace usual next delivers p places then most 0
    round-sent most empty stage settle light =
        round-settled charge trace usual next delivers p line places then most known
        (record {
          under = subst (λ (s : State). AllUnder Settles s.lane) (sym is) (under-sent Settles dst line outcome.sends lane (under-empty Settles lane empty) (all-settle outcome.sends settle));
          granted = stage.granted;
          tracked = stage.tracked;
        })
        (let a = sent-weight sizes.nodes dst line outcome.sends lane empty in
        let b : weight_by still sizes.nodes then.state.lane ≡ weight_by still sizes.nodes (sent_of dst line outcome.sends lane) = ap (λ (s : State). weight_by still sizes.nodes s.lane) is in
        omega arith)
