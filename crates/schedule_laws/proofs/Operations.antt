-- From rest the schedule completes the operation that it chooses, within 2N + 8 events and with at most one Nak: a Hit, or room is made and
-- the operation is issued, at its line's home or elsewhere, and once more where a link is wanted.
use Rattle.std.proofs.Common.{◌≡◌, ◌≢◌, ℕ, suc, ◌+◌, ◌*◌, ◌<◌, Bool, true, false, cond, ◌==◌, [], slice_get, refl, arith, ap, sym, ◌∙◌, subst, Option, Some, None, option_map, is_ok, inl}
use Rattle.std.proofs.lemmas.Bool.Decides.{nat_tests}
use Rattle.line_map.specs.Sizes.{Sizes, home_of, line_of}
use Rattle.op_model.specs.declared.events.Event.{Event}
use Rattle.op_model.specs.declared.events.Event.TheVariants.{Evict, Hit, Issue}
use Rattle.op_model.specs.declared.operations.Op.{Op}
use Rattle.op_model.specs.Events.Node.{is_outstanding}
use Rattle.op_model.specs.Operations.{is_load}
use Rattle.op_model.specs.Run.Rest.{IsAtRest}
use Rattle.op_model.specs.Run.Runs.{Past}
use Rattle.op_model.specs.Run.Schedules.{eviction_of, lane_or_next, make_room, other_in_set, processor_event}
use Rattle.op_model.specs.Shares.{Charge, State, Trace, conflicts, copy_of, program, room_of, share_at, want_on}
use Rattle.op_model.specs.Tables.Home.{lacks_link}
use Rattle.op_model.specs.Tables.Processor.{hit, serves}
use Rattle.node_range.proofs.Public.{next-in}
use Rattle.rest_laws.proofs.Public.{clear-none}
use Rattle.schedule_laws.specs.Courses.{next_by}
use Rattle.schedule_laws.proofs.Alone.{absent-other, left-alone, other-none, other-some}
use Rattle.schedule_laws.proofs.Begins.{hit-made, hit-missed}
use Rattle.schedule_laws.proofs.Completing.{Completes}
use Rattle.schedule_laws.proofs.Evicts.{round-evicted}
use Rattle.schedule_laws.proofs.Issues.{Chooses, issue-here, issue-load, issue-write}
use Rattle.schedule_laws.proofs.Known.{Delivers, IsKnown, IsUsual, known-run}
use Rattle.schedule_laws.proofs.Recalls.{header_at}
use Rattle.schedule_laws.proofs.RestMoments.{free-at}
use Rattle.schedule_laws.proofs.Retries.{issue-wanting, issues-next, round-places}
use Rattle.schedule_laws.proofs.Rounds.{IsRound, round-made, round-naks, round-none, round-wider}
use Rattle.schedule_laws.proofs.Settling.{IsTracked}
use Rattle.schedule_laws.proofs.Single.{AreEmpty, none-sent, only-sent}
use Rattle.schedule_laws.proofs.FromRest.{tracked-first}

module _ (charge : Charge) (trace : Trace) (usual : IsUsual trace) (next : State → Option Event) (delivers : Delivers charge trace usual next) (op : Op) (p_in : op.node < trace.sizes.nodes) where
  abbrev sizes : Sizes
  sizes = trace.sizes

  abbrev p : ℕ
  p = op.node

  abbrev line : ℕ
  line = line_of sizes op.word

  abbrev home : ℕ
  home = home_of sizes line

  module _ (first : Past) (known : IsKnown charge trace first) (rests : IsAtRest first.state) (is : slice_get (program trace p) (first.state.share p).place ≡ Some op) (chooses : Chooses charge trace next (λ n. (first.state.share n).place) op) where
    abbrev places : ℕ → ℕ
    places n = (first.state.share n).place

    abbrev Round : ℕ → ℕ → Type 0
    Round most naks = IsRound charge trace usual next delivers p places first most naks

    free : is_outstanding (first.state.share p).want ≡ false
    free = ap is_outstanding (free-at charge trace usual first known rests p)

    home_in : home < sizes.nodes
    home_in = (next-in trace usual.ops p (first.state.share p).place line op (is, refl)).1

    -- where the copy doesn't serve and no other line is in the set
    issue-any : serves op (copy_of (first.state.share p) line) ≡ false → other_in_set sizes (first.state.share p) line ≡ None → Round (2 * sizes.nodes + 6) 1
    issue-any missed other = go (p == home) refl
      where
        alone : conflicts sizes (first.state.share p) line ≡ false
        alone = other-none sizes (first.state.share p) line other

        issues : next first.state ≡ Some (Issue p)
        issues = chooses first rests (λ n. refl) ∙ ap Some (issues-next charge trace usual first known op is free missed other)

        go : (c : Bool) → (p == home) ≡ c → Round (2 * sizes.nodes + 6) 1
        go true e =
            let here : p ≡ home = grind (arith, nat_tests) in
            round-naks charge trace usual next delivers p places first (2 * sizes.nodes + 6) 0 1 (omega arith)
            (round-wider charge trace usual next delivers p places first (2 * sizes.nodes + 4) (2 * sizes.nodes + 6) 0 (omega arith)
            (issue-here charge trace usual next delivers op first known rests is p_in missed alone issues here))
        go false e = there (is_load op.kind) refl
          where
            apart : p ≢ home
            apart = grind (arith, nat_tests)

            there : (c : Bool) → is_load op.kind ≡ c → Round (2 * sizes.nodes + 6) 1
            there false write =
                round-naks charge trace usual next delivers p places first (2 * sizes.nodes + 6) 0 1 (omega arith)
                (round-wider charge trace usual next delivers p places first (2 * sizes.nodes + 2) (2 * sizes.nodes + 6) 0 (omega arith)
                (issue-write charge trace usual next delivers op first known rests is p_in missed alone issues apart write))
            there true load = link (lacks_link (room_of charge sizes (first.state.share home)) p (header_at sizes first.state line)) refl
              where
                link : (c : Bool) → lacks_link (room_of charge sizes (first.state.share home)) p (header_at sizes first.state line) ≡ c → Round (2 * sizes.nodes + 6) 1
                link true lacks = issue-wanting charge trace usual next delivers op first known rests is p_in missed alone chooses load issues apart home_in lacks
                link false has =
                    round-naks charge trace usual next delivers p places first (2 * sizes.nodes + 6) 0 1 (omega arith)
                    (round-wider charge trace usual next delivers p places first 5 (2 * sizes.nodes + 6) 0 (omega arith)
                    (issue-load charge trace usual next delivers op first known rests is p_in missed alone issues apart load has))

    -- where the copy serves
    hit-any : serves op (copy_of (first.state.share p) line) ≡ true → Round 1 0
    unfolding hit
    hit-any serve =
        let made = hit-made charge trace usual first known p op is free serve in
        let hits : next first.state ≡ Some (Hit p) = chooses first rests (λ n. refl) ∙ ap (λ r. Some (cond (is_ok r) (Hit p) (make_room sizes p (first.state.share p) (other_in_set sizes (first.state.share p) line)))) made.1 in
        round-made charge trace usual next delivers p places first 0 0 known (Hit p) p line (hit op (share_at sizes first.state p line)) hits made tt
        (λ then known_then at.
        round-none charge trace usual next delivers p places then 0 known_then
        (subst (λ (s : State). AreEmpty s.lane) (sym at) (none-sent p line _ (only-sent p line [] first.state.lane rests.lanes)))
        (subst (IsTracked p places) (sym at) (tracked-first sizes first.state p line (hit op (share_at sizes first.state p line)) rests.wants first.state.lane (inl (refl, ap (λ w. want_on sizes w line) (free-at charge trace usual first known rests p))))))

  module _ (first : Past) (known : IsKnown charge trace first) (rests : IsAtRest first.state) (is : slice_get (program trace p) (first.state.share p).place ≡ Some op) (chooses : Chooses charge trace next (λ n. (first.state.share n).place) op) where
    abbrev place_of : ℕ → ℕ
    place_of n = (first.state.share n).place

    -- room is made, and then the operation is issued
    evict-any : serves op (copy_of (first.state.share p) line) ≡ false → (g : ℕ) → other_in_set sizes (first.state.share p) line ≡ Some g → IsRound charge trace usual next delivers p place_of first (suc (suc (2 * sizes.nodes + 6))) 1
    evict-any missed g other =
        let there = other-some sizes (first.state.share p) line g other in
        let miss = hit-missed charge trace usual first known p op is (ap is_outstanding (free-at charge trace usual first known rests p)) missed in
        let chosen : next first.state ≡ Some (Evict p g (eviction_of (p == home_of sizes g) (copy_of (first.state.share p) g))) =
        chooses first rests (λ n. refl)
        ∙ ap (λ r. Some (cond (is_ok r) (Hit p) (make_room sizes p (first.state.share p) (other_in_set sizes (first.state.share p) line)))) miss
        ∙ ap (λ o. Some (make_room sizes p (first.state.share p) o)) other in
        round-evicted charge trace usual next delivers p first known rests p_in g there.2 (2 * sizes.nodes + 6) 1 chosen
        (λ end known_end rests_end places copies gone.
        let alone = left-alone sizes (first.state.share p) (end.state.share p) line g (known.sound.cached p) there.0 there.2 copies gone in
        round-places charge trace usual next delivers p (λ n. (end.state.share n).place) place_of end (2 * sizes.nodes + 6) 1 places
        (issue-any end known_end rests_end (ap (slice_get (program trace p)) (places p) ∙ is) (λ m still same. chooses m still (λ n. same n ∙ places n))
        (ap (serves op) (copies line (λ e. there.1 (sym e))) ∙ missed) (absent-other sizes (end.state.share p) line alone)))

    pub round-any : IsRound charge trace usual next delivers p place_of first (2 * sizes.nodes + 8) 1
    round-any = go (serves op (copy_of (first.state.share p) line)) refl
      where
        go : (c : Bool) → serves op (copy_of (first.state.share p) line) ≡ c → IsRound charge trace usual next delivers p place_of first (2 * sizes.nodes + 8) 1
        go true serve =
            round-naks charge trace usual next delivers p place_of first (2 * sizes.nodes + 8) 0 1 (omega arith)
            (round-wider charge trace usual next delivers p place_of first 1 (2 * sizes.nodes + 8) 0 (omega arith) (hit-any first known rests is chooses serve))
        go false missed = room (other_in_set sizes (first.state.share p) line) refl
          where
            room : (o : Option ℕ) → other_in_set sizes (first.state.share p) line ≡ o → IsRound charge trace usual next delivers p place_of first (2 * sizes.nodes + 8) 1
            room None other = round-wider charge trace usual next delivers p place_of first (2 * sizes.nodes + 6) (2 * sizes.nodes + 8) 1 (omega arith) (issue-any first known rests is chooses missed other)
            room (Some g) other = round-wider charge trace usual next delivers p place_of first (suc (suc (2 * sizes.nodes + 6))) (2 * sizes.nodes + 8) 1 (omega arith) (evict-any missed g other)

-- what the schedules rest on
pub completes : (charge : Charge) (trace : Trace) → IsUsual trace → Completes charge trace
completes charge trace usual chosen before past op runs rests p_in is same =
    let known = known-run charge trace usual before past runs in
    let round = round-any charge trace usual next (λ state lane e. ap (lane_or_next charge trace.sizes (program trace) state (chosen state)) e) op p_in past known rests is chooses in
    record { events = round.events; end = round.end; course = round.course; within = round.within; naks = round.few; rests = round.rests; done = round.done; others = round.others }
  where
    next : State → Option Event
    next = next_by chosen charge trace.sizes (program trace)

    chooses : Chooses charge trace next (λ n. (past.state.share n).place) op
    chooses m still places =
        ap (lane_or_next charge trace.sizes (program trace) m.state (chosen m.state)) (clear-none trace.sizes m.state (λ a b class x y. still.lanes a b class))
        ∙ ap (option_map (processor_event charge trace.sizes (program trace) m.state)) (same m.state places)
