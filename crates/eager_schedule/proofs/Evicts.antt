-- Room is made for the next operation at rest: the line that stands in the cache set leaves, its message is taken, and the machine is at rest as before, but for that copy.
use Rattle.std.proofs.Common.{◌≡◌, ◌≢◌, ℕ, suc, ◌<◌, ◌⊎◌, inl, inr, true, false, not, ◌==◌, ◌&&◌, List, [], ◌∷◌, refl, arith, ap, sym, ◌∙◌, subst, None, Some, Ok}
use Rattle.std.proofs.lemmas.Bool.{eqb-false}
use Rattle.line_map.specs.Sizes.{Sizes, home_of}
use Rattle.op_model.specs.declared.events.Class.TheVariants.{Request}
use Rattle.op_model.specs.declared.events.Event.TheVariants.{Evict}
use Rattle.op_model.specs.declared.events.EvictKind.{EvictKind}
use Rattle.op_model.specs.Events.Node.{departs}
use Rattle.op_model.specs.Events.Step.{has_room}
use Rattle.op_model.specs.Lines.{Absent, LineShare, Outcome, is_empty}
use Rattle.op_model.specs.Messages.{Content, Rpl, Wb, message, msg_class}
use Rattle.op_model.specs.Operations.{Words}
use Rattle.op_model.specs.Run.Rest.{IsAtRest}
use Rattle.op_model.specs.Run.Schedules.{eviction_of, serial_next}
use Rattle.op_model.specs.Shares.{Lanes, State, Trace, Unlinked, copy_of, line_share, program, want_on}
use Rattle.op_model.specs.Tables.Processor.{evict}
use Rattle.one_history.proofs.Public.{put-stays}
use Rattle.lane_bounds.proofs.Public.{after_row_of, sent_of, taken_of}
use Rattle.schedule_laws.proofs.Public.{AreEmpty, IsEviction, IsUsual, OnlyOne, OnlySent, at-share, copies-after, evicts, gone-after, open-gate, places-after}
use Rattle.schedule_laws.proofs.Public.{none-sent, one-sent, one-taken, only-sent, settles, still, still_sent}
use Rattle.eager_model.specs.Runs.{Past, past_after}
use Rattle.eager_part.proofs.Public.{copy-in, ranged-run}
use Rattle.eager_schedule.proofs.Begins.{evict-made}
use Rattle.eager_schedule.proofs.Quiet.{resting}
use Rattle.eager_schedule.proofs.Rounds.{IsRound, round-after, round-wider}
use Rattle.eager_schedule.proofs.Runs.{IsReached, reached-event}
use Rattle.eager_schedule.proofs.Settled.{IsSettling, message-settles}
use Rattle.eager_schedule.proofs.Stages.{share-away}
use Rattle.eager_schedule.proofs.Takes.{round-taken, row_at}

-- what is lighter than one message is none
none-lighter : (sends : List (ℕ × Content)) → still_sent sends < 1 → sends ≡ []
none-lighter [] light = refl
none-lighter (send ∷ sends) light = absurd (some send.1 (omega arith))
  where
    some : (content : Content) → still content < 1 → ⊥
    some content less = grind arith

module _ (trace : Trace) (usual : IsUsual trace) (p : ℕ) (first : Past) (reached : IsReached trace first) (rests : IsAtRest first.state) (p_in : p < trace.sizes.nodes) (g : ℕ) (has : is_empty (copy_of (first.state.share p) g) ≡ false) where
  abbrev sizes : Sizes
  sizes = trace.sizes

  abbrev home : ℕ
  home = home_of sizes g

  abbrev places : ℕ → ℕ
  places n = (first.state.share n).place

  abbrev share : LineShare
  share = line_share sizes (first.state.share p) g

  abbrev kind : EvictKind
  kind = eviction_of (p == home) (copy_of (first.state.share p) g)

  home_in : home < sizes.nodes
  home_in = let ranged = ranged-run trace usual.ops reached.0 first reached.1 in (copy-in trace usual.ops first.state ranged.own ranged.ranged p g has).1

  -- with empty lanes the gate is open
  gate : (departs (p == home) kind && not (has_room sizes (first.state.lane p home Request))) ≡ false
  gate = open-gate sizes (first.state.lane p home Request) (departs (p == home) kind) (rests.lanes p home Request) usual.evicts

  -- what comes after it, from rest
  abbrev pub Later : ℕ → Type 0
  Later most =
      (end : Past) → IsReached trace end → IsAtRest end.state → ((n : ℕ) → (end.state.share n).place ≡ places n) → ((x : ℕ) → x ≢ g → copy_of (end.state.share p) x ≡ copy_of (first.state.share p) x) → copy_of (end.state.share p) g ≡ Absent →
      IsRound trace usual p places end most

  module _ (chosen : serial_next Unlinked sizes (program trace) trace.ops first.state ≡ Some (Evict p g kind)) (most : ℕ) (later : Later most) (outcome : Outcome) (does : evict p home kind share ≡ Ok outcome) (gone : outcome.share.copy ≡ Absent) (undone : outcome.done ≡ false) where
    module _ (then : Past) (at : then.state ≡ after_row_of sizes p g outcome first.state) where
      lanes-then : OnlySent p g outcome.sends then.state.lane
      lanes-then = subst (λ (s : State). OnlySent p g outcome.sends s.lane) (sym at) (only-sent p g outcome.sends first.state.lane rests.lanes)

    -- the eviction, and then a round
    evicted : (more : ℕ) → ((then : Past) → IsReached trace then → then.state ≡ after_row_of sizes p g outcome first.state → IsRound trace usual p places then more) → IsRound trace usual p places first (suc more)
    evicted more after =
        let made = evict-made trace first p g kind outcome does gate in
        round-after trace usual p places first more (Evict p g kind) made.0 chosen made.1 (after (past_after sizes first made.0) (reached-event trace first reached (Evict p g kind) made.0 made.1) made.2)

    -- where all lanes are empty again
    rested : (then : Past) → IsReached trace then → AreEmpty then.state.lane → IsAtRest then.state
    rested then reached_then empty = resting trace reached_then.0 then usual.words reached_then.1 empty

    evicted-home : outcome.sends ≡ [] → IsRound trace usual p places first (suc most)
    evicted-home silent =
        evicted most (λ then reached_then at.
        later then reached_then (rested then reached_then (none-sent p g then.state.lane (subst (λ l. OnlySent p g l then.state.lane) silent (lanes-then then at)))) (places-after sizes first.state p g outcome then.state at undone) (copies-after sizes first.state p g outcome then.state at) (gone-after sizes first.state p g outcome then.state at gone))

    -- elsewhere one message goes to the home
    module _ (content : Content) (sends : outcome.sends ≡ (home, content) ∷ []) (kinds : settles content ≡ true) (one : still content ≡ 1) (apart : p ≢ home) (then : Past) (reached_then : IsReached trace then) (at : then.state ≡ after_row_of sizes p g outcome first.state) where
      single : OnlyOne p home (message g content) then.state.lane
      single = one-sent p g home content then.state.lane (subst (λ l. OnlySent p g l then.state.lane) sends (lanes-then then at))

      abbrev taken : Lanes
      taken = taken_of p home (msg_class (message g content)) [] then.state.lane

      abbrev row : Outcome
      row = row_at sizes (then.state.share home) home p g content

      settling : IsSettling content (line_share sizes (then.state.share home) g) row
      settling = message-settles home home p _ (line_share sizes (then.state.share home) g) _ content kinds

      silent : row.sends ≡ []
      silent = none-lighter row.sends (let light = settling.lighter in omega arith)

      idle : want_on sizes (then.state.share home).want g ≡ None
      idle = ap (λ s. want_on sizes s.want g) (share-away sizes first.state then.state first.state.lane p g outcome at home (λ e. apart (sym e))) ∙ ap (λ w. want_on sizes w g) (rests.wants home)

      left-round : IsRound trace usual p places then (suc most)
      left-round =
          round-taken trace usual then reached_then p home g content single p_in home_in p places most
          (λ last reached_last is.
          let empty : AreEmpty last.state.lane = subst (λ (s : State). AreEmpty s.lane) (sym is) (none-sent home g _ (subst (λ x. OnlySent home g x (sent_of home g row.sends taken)) silent (only-sent home g row.sends taken (one-taken p home (message g content) then.state.lane single)))) in
          let mine = share-away sizes then.state last.state taken home g row is p apart in
          later last reached_last (rested last reached_last empty)
          (λ n. ap (λ (s : State). (s.share n).place) is ∙ at-share sizes then.state taken home g row (λ s. s.place ≡ places n) n (λ _. places-after sizes first.state p g outcome then.state at undone n)
          (λ near. put-stays sizes (home == home_of sizes g) g row.done row.share (then.state.share home) (settling.unwanted idle).1 ∙ ap (λ k. (then.state.share k).place) (sym near) ∙ places-after sizes first.state p g outcome then.state at undone n))
          (λ x other. ap (λ s. copy_of s x) mine ∙ copies-after sizes first.state p g outcome then.state at x other)
          (ap (λ s. copy_of s g) mine ∙ gone-after sizes first.state p g outcome then.state at gone))

    evicted-away : (content : Content) → outcome.sends ≡ (home, content) ∷ [] → settles content ≡ true → still content ≡ 1 → p ≢ home → IsRound trace usual p places first (suc (suc most))
    evicted-away content sends kinds one apart = evicted (suc most) (left-round content sends kinds one apart)

  -- an eviction of the schedule, and what comes after it
  pub round-evicted : (most : ℕ) → serial_next Unlinked sizes (program trace) trace.ops first.state ≡ Some (Evict p g kind) → Later most → IsRound trace usual p places first (suc (suc most))
  round-evicted most chosen later = let found = evicts p home share has in go found.0 found.1 found.2
    where
      go : (o : Outcome) → evict p home kind share ≡ Ok o → IsEviction (p == home) home share o → IsRound trace usual p places first (suc (suc most))
      go o does (gone, undone, inl here) = round-wider trace usual p places first (suc most) (suc (suc most)) (omega arith) (evicted-home chosen most later o does gone undone here.1)
      go o does (gone, undone, inr there) = left there.1.2
        where
          left : (there.1.0 ≡ Rpl) ⊎ ((words : Words) × (there.1.0 ≡ Wb words)) → IsRound trace usual p places first (suc (suc most))
          left (inl hint) = evicted-away chosen most later o does gone undone Rpl (there.1.1 ∙ ap (λ c. (home, c) ∷ []) hint) refl refl (eqb-false p home there.0)
          left (inr back) = evicted-away chosen most later o does gone undone (Wb back.0) (there.1.1 ∙ ap (λ c. (home, c) ∷ []) back.1) refl refl (eqb-false p home there.0)
