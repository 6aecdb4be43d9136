-- From rest the serial schedule completes the operation that it has come to within 2N + 8 events: a Hit, or room is made and the operation is issued.
use Rattle.std.proofs.Common.{◌≡◌, ℕ, suc, ◌+◌, ◌*◌, Bool, true, false, inl, List, [], slice_get, refl, arith, ap, sym, ◌∙◌, subst, Option, Some, None, option_map}
use Rattle.line_map.specs.Sizes.{AreSizes, Sizes, line_of}
use Rattle.op_model.specs.declared.events.Event.{Event}
use Rattle.op_model.specs.declared.events.Event.TheVariants.{Hit}
use Rattle.op_model.specs.declared.operations.Op.{Op}
use Rattle.op_model.specs.Lines.{Outcome, is_outstanding}
use Rattle.op_model.specs.Run.Rest.{IsAtRest}
use Rattle.op_model.specs.Run.Schedules.{current, lane_or_next, make_room, other_in_set, processor_event, serial_next}
use Rattle.op_model.specs.Shares.{State, Trace, Unlinked, copy_of, line_share, program, want_on}
use Rattle.op_model.specs.Tables.Processor.{hit, serves}
use Rattle.one_history.specs.Sound.{IsCached}
use Rattle.node_range.specs.Range.{IsOfMachine}
use Rattle.node_range.proofs.Public.{next-in}
use Rattle.rest_laws.proofs.Public.{clear-none}
use Rattle.schedule_laws.specs.Ends.{IsInOrder}
use Rattle.schedule_laws.proofs.Public.{IsTracked, IsUsual, absent-other, left-alone, none-sent, only-sent, tracked-first}
use Rattle.schedule_laws.proofs.Public.{other-none, other-some, usual}
use Rattle.serial_steps.proofs.Public.{current-same, done-at-least, found, is-below, is-over, next-op}
use Rattle.serial_steps.proofs.Public.{open_op}
use Rattle.eager_model.specs.Laws.{CompletesWithin}
use Rattle.eager_model.specs.Runs.{Past, past_after, run}
use Rattle.eager_history.proofs.Public.{sound-run}
use Rattle.eager_schedule.proofs.Begins.{event-hit, event-missed, hit-made}
use Rattle.eager_schedule.proofs.Evicts.{round-evicted}
use Rattle.eager_schedule.proofs.Issues.{issue-any}
use Rattle.eager_schedule.proofs.Rounds.{IsRound, round-after, round-none, round-wider}
use Rattle.eager_schedule.proofs.Runs.{IsReached, course-at, course-run, reached-event}

-- At rest, at these places, the schedule goes on with this operation
abbrev Chooses : Trace → (ℕ → ℕ) → Op → Type 0
Chooses trace places op =
    (m : Past) → IsAtRest m.state → ((n : ℕ) → (m.state.share n).place ≡ places n) → serial_next Unlinked trace.sizes (program trace) trace.ops m.state ≡ Some (processor_event Unlinked trace.sizes (program trace) m.state op)

module _ (trace : Trace) (usual : IsUsual trace) (op : Op) where
  abbrev sizes : Sizes
  sizes = trace.sizes

  abbrev p : ℕ
  p = op.node

  abbrev line : ℕ
  line = line_of sizes op.word

  -- where the copy doesn't serve and no other line is in the set
  missed-alone : (first : Past) → IsReached trace first → IsAtRest first.state → slice_get (program trace p) (first.state.share p).place ≡ Some op → Chooses trace (λ n. (first.state.share n).place) op → serves op (copy_of (first.state.share p) line) ≡ false →
      other_in_set sizes (first.state.share p) line ≡ None → IsRound trace usual p (λ n. (first.state.share n).place) first (2 * sizes.nodes + 6)
  missed-alone first reached rests is chooses missed other =
      issue-any trace usual op first reached rests is missed (other-none sizes (first.state.share p) line other)
      (chooses first rests (λ n. refl) ∙ ap Some (event-missed trace first p op is (ap is_outstanding (rests.wants p)) refl missed ∙ ap (make_room sizes p (first.state.share p)) other))

  -- a round may be told by other places that are the same
  same-places : (f g : ℕ → ℕ) (past : Past) (most : ℕ) → ((n : ℕ) → f n ≡ g n) → IsRound trace usual p f past most → IsRound trace usual p g past most
  same-places f g past most same round =
      record { events = round.events; end = round.end; course = round.course; within = round.within; rests = round.rests; done = round.done ∙ ap suc (same p); others = λ n apart. round.others n apart ∙ same n }

  module _ (first : Past) (reached : IsReached trace first) (rests : IsAtRest first.state) (is : slice_get (program trace p) (first.state.share p).place ≡ Some op) (chooses : Chooses trace (λ n. (first.state.share n).place) op) where
    abbrev places : ℕ → ℕ
    places n = (first.state.share n).place

    abbrev Round : Past → ℕ → Type 0
    Round past most = IsRound trace usual p places past most

    free : is_outstanding (first.state.share p).want ≡ false
    free = ap is_outstanding (rests.wants p)

    -- where the copy serves
    hit-any : serves op (copy_of (first.state.share p) line) ≡ true → Round first 1
    unfolding hit
    hit-any serve =
        let made = hit-made trace first p op is free serve in
        let row : Outcome = hit op (line_share sizes (first.state.share p) line) in
        let chosen = chooses first rests (λ n. refl) ∙ ap Some (event-hit trace first p op is free refl serve) in
        let then : Past = past_after sizes first made.0 in
        let none = ap (λ w. want_on sizes w line) (rests.wants p) in
        round-after trace usual p places first 0 (Hit p) made.0 chosen made.1
        (round-none trace usual p places then 0 (reached-event trace first reached (Hit p) made.0 made.1)
        (subst (IsTracked p places) (sym made.2) (tracked-first trace.sizes first.state p line row rests.wants first.state.lane (inl (refl, none))))
        (clear-none sizes then.state (λ a b class _ _. ap (λ (s : State). s.lane a b class) made.2 ∙ none-sent p line _ (only-sent p line [] first.state.lane rests.lanes) a b class)))

    cached : IsCached sizes (first.state.share p)
    cached = (sound-run trace reached.0 first usual.words reached.1).cached p

    -- room is made, and then the operation is issued
    evict-any : serves op (copy_of (first.state.share p) line) ≡ false → (g : ℕ) → other_in_set sizes (first.state.share p) line ≡ Some g → Round first (suc (suc (2 * sizes.nodes + 6)))
    evict-any missed g other =
        let there = other-some sizes (first.state.share p) line g other in
        let p_in = (next-in trace usual.ops p (first.state.share p).place line op (is, refl)).0 in
        round-evicted trace usual p first reached rests p_in g there.2 (2 * sizes.nodes + 6)
        (chooses first rests (λ n. refl) ∙ ap Some (event-missed trace first p op is free refl missed ∙ ap (make_room sizes p (first.state.share p)) other))
        (λ end reached_end rests_end same copies gone.
        same-places (λ n. (end.state.share n).place) places end (2 * sizes.nodes + 6) same
        (missed-alone end reached_end rests_end (ap (slice_get (program trace p)) (same p) ∙ is) (λ m still alike. chooses m still (λ n. alike n ∙ same n))
        (ap (serves op) (copies line (λ e. there.1 (sym e))) ∙ missed) (absent-other sizes (end.state.share p) line (left-alone sizes (first.state.share p) (end.state.share p) line g cached there.0 there.2 copies gone))))

    pub round-any : Round first (2 * sizes.nodes + 8)
    round-any = go (serves op (copy_of (first.state.share p) line)) refl
      where
        go : (c : Bool) → serves op (copy_of (first.state.share p) line) ≡ c → Round first (2 * sizes.nodes + 8)
        go true serve = round-wider trace usual p places first 1 (2 * sizes.nodes + 8) (omega arith) (hit-any serve)
        go false missed = room (other_in_set sizes (first.state.share p) line) refl
          where
            room : (o : Option ℕ) → other_in_set sizes (first.state.share p) line ≡ o → Round first (2 * sizes.nodes + 8)
            room None other = round-wider trace usual p places first (2 * sizes.nodes + 6) (2 * sizes.nodes + 8) (omega arith) (missed-alone first reached rests is chooses missed other)
            room (Some g) other = round-wider trace usual p places first (suc (suc (2 * sizes.nodes + 6))) (2 * sizes.nodes + 8) (omega arith) (evict-any missed g other)

  -- from the operation that the schedule has come to
  pub completes : (past : Past) → IsReached trace past → IsAtRest past.state → slice_get (program trace p) (past.state.share p).place ≡ Some op → current trace.ops past.state ≡ Some op → IsRound trace usual p (λ n. (past.state.share n).place) past (2 * sizes.nodes + 8)
  completes past reached rests is comes =
      round-any past reached rests is
      (λ m still same.
      ap (lane_or_next Unlinked sizes (program trace) m.state (current trace.ops m.state)) (clear-none sizes m.state (λ a b class _ _. still.lanes a b class))
      ∙ ap (option_map (processor_event Unlinked sizes (program trace) m.state)) (current-same trace.ops m.state past.state same ∙ comes))

-- the operation that the schedule has come to has its node's place as its index
index-is : (trace : Trace) (ordered : IsInOrder trace) (state : State) (op : Op) → current trace.ops state ≡ Some op → op.index ≡ (state.share op.node).place
index-is trace ordered state op is =
    let f = found (open_op trace ordered state) trace.ops op is in
    let least = done-at-least trace ordered state f.at (λ j y less there. is-below y.index (state.share y.node).place (f.before j y less there)) f.there op.node in
    let most = is-over op.index (state.share op.node).place f.passes in
    let index = ordered f.at op f.is in
    omega arith

pub each_operation : (trace : Trace) (before : List Event) (past : Past) (op : Op) → AreSizes trace.sizes → IsOfMachine trace → IsInOrder trace → run trace before ≡ Some past → IsAtRest past.state → current trace.ops past.state ≡ Some op → CompletesWithin trace (2 * trace.sizes.nodes + 8) past op
each_operation trace before past op are all ordered ran rests comes =
    let round = completes trace (usual trace are all) op past (before, ran) rests (next-op trace ordered past.state op comes) comes in
    let index = index-is trace ordered past.state op comes in
    let place = round.done in
    record {
      events = round.events;
      next = λ k moment less goes. course-at trace past round.end round.events round.course k moment goes (inl less);
      end = round.end;
      ran = course-run trace past round.end round.events round.course;
      short = round.within;
      completed = omega arith;
      rests = round.rests;
    }
