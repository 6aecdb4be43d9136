-- An operation that its copy doesn't serve, with no other line in its cache set, begun while all else rests: at the line's home, and
-- elsewhere for a write, and for a load where no link is wanted or one is free.
use Rattle.std.proofs.Common.{◌≡◌, ◌≢◌, ℕ, suc, ◌+◌, ◌*◌, ◌<◌, inl, inr, Bool, true, false, cond, ◌==◌, [], ◌∷◌, slice_get, refl, arith, ap, sym, ◌∙◌, subst, Option, Some, None, Ok}
use Rattle.std.proofs.lemmas.Bool.Decides.{nat_tests}
use Rattle.line_map.specs.Sizes.{Sizes, home_of, line_of}
use Rattle.op_model.specs.declared.events.Event.{Event}
use Rattle.op_model.specs.declared.events.Event.TheVariants.{Issue}
use Rattle.op_model.specs.declared.operations.Op.{Op}
use Rattle.op_model.specs.Events.Node.{is_outstanding}
use Rattle.op_model.specs.Lines.{LineShare, Outcome, is_exclusive, is_pending, owner, to_listed}
use Rattle.op_model.specs.Messages.{Content, FwdGet, FwdGetX, Get, GetX, message}
use Rattle.op_model.specs.Nodes.{listed}
use Rattle.op_model.specs.Operations.{is_load}
use Rattle.op_model.specs.Run.Rest.{IsAtRest}
use Rattle.op_model.specs.Run.Runs.{Past}
use Rattle.op_model.specs.Run.Schedules.{processor_event}
use Rattle.op_model.specs.Shares.{Charge, State, Trace, conflicts, copy_of, program, room_of, share_at, want_on}
use Rattle.op_model.specs.Tables.Home.{lacks_link}
use Rattle.op_model.specs.Tables.Processor.{ask, begin_at_home, begin_op, serves}
use Rattle.line_invariant.proofs.Public.{owner-only}
use Rattle.lane_bounds.proofs.Public.{after_row_of, sent_of}
use Rattle.node_range.proofs.Public.{next-in}
use Rattle.rest_laws.proofs.Public.{sends_weight}
use Rattle.schedule_laws.proofs.Asked.{headers-kept, serves-exclusive, share-kept}
use Rattle.schedule_laws.proofs.Begins.{issue-made}
use Rattle.schedule_laws.proofs.Completes.{none-naks}
use Rattle.schedule_laws.proofs.Forwards.{round-forward, round-forwardx}
use Rattle.schedule_laws.proofs.Gets.{listed-weight, round-get, round-getx}
use Rattle.schedule_laws.proofs.Known.{Delivers, IsKnown, IsNoNak, IsUsual}
use Rattle.schedule_laws.proofs.Recalls.{calm-grants, header_at}
use Rattle.schedule_laws.proofs.Requests.{IsBegunAs, IsBegunHere, IsCallingFor, IsDoneHere, ask-row, begin-away, begin-home, each-settles, home-row}
use Rattle.schedule_laws.proofs.RestLines.{IsRestLine}
use Rattle.schedule_laws.proofs.RestMoments.{free-at, idle-at, listed-only, rest-at, room-free, unlisted-at}
use Rattle.schedule_laws.proofs.Rounds.{IsRound, round-made, round-none, round-wider}
use Rattle.schedule_laws.proofs.Settled.{AllSettle, still}
use Rattle.schedule_laws.proofs.Settling.{GoesOn, grants_at}
use Rattle.schedule_laws.proofs.Single.{OnlyOne, OnlySent, none-sent, one-sent, only-sent}
use Rattle.schedule_laws.proofs.Stages.{IsStage, granted-then, grants-home, round-sent, share-away}
use Rattle.schedule_laws.proofs.Under.{AllSent}
use Rattle.schedule_laws.proofs.FromRest.{tracked-first}

-- At rest, at these places, the schedule goes on with this operation
abbrev pub Chooses : Charge → Trace → (State → Option Event) → (ℕ → ℕ) → Op → Type 0
Chooses charge trace next places op =
    (m : Past) → IsAtRest m.state → ((n : ℕ) → (m.state.share n).place ≡ places n) → next m.state ≡ Some (processor_event charge trace.sizes (program trace) m.state op)

module _ (charge : Charge) (trace : Trace) (usual : IsUsual trace) (next : State → Option Event) (delivers : Delivers charge trace usual next) (op : Op) (first : Past) (known : IsKnown charge trace first) (rests : IsAtRest first.state)
    (is : slice_get (program trace op.node) (first.state.share op.node).place ≡ Some op) (p_in : op.node < trace.sizes.nodes)
    (missed : serves op (copy_of (first.state.share op.node) (line_of trace.sizes op.word)) ≡ false) (alone : conflicts trace.sizes (first.state.share op.node) (line_of trace.sizes op.word) ≡ false)
    (issues : next first.state ≡ Some (Issue op.node)) where
  abbrev sizes : Sizes
  sizes = trace.sizes

  abbrev p : ℕ
  p = op.node

  abbrev line : ℕ
  line = line_of sizes op.word

  abbrev home : ℕ
  home = home_of sizes line

  abbrev places : ℕ → ℕ
  places n = (first.state.share n).place

  abbrev share : LineShare
  share = share_at sizes first.state p line

  abbrev Round : Past → ℕ → Type 0
  Round past most = IsRound charge trace usual next delivers p places past most 0

  home_in : home < sizes.nodes
  home_in = (next-in trace usual.ops p (first.state.share p).place line op (is, refl)).1

  free : is_outstanding (first.state.share p).want ≡ false
  free = ap is_outstanding (free-at charge trace usual first known rests p)

  none : share.want ≡ None
  none = ap (λ w. want_on sizes w line) (free-at charge trace usual first known rests p)

  granted-first : (g : ℕ) → g ≢ line → grants_at sizes first.state g ≡ 0
  granted-first g apart = calm-grants (header_at sizes first.state g) (inl (idle-at charge trace usual first known rests g))

  -- an Issue that does this row, and then a round
  pub issued : (outcome : Outcome) (most naks : ℕ) → begin_op p home (room_of charge sizes (first.state.share p)) op share ≡ Ok outcome → AllSent IsNoNak outcome.sends → GoesOn outcome →
      ((then : Past) → IsStage charge trace usual next delivers p line places then → then.state ≡ after_row_of sizes p line outcome first.state → IsRound charge trace usual next delivers p places then most naks) →
      IsRound charge trace usual next delivers p places first (suc most) naks
  issued outcome most naks begins all goes later =
      round-made charge trace usual next delivers p places first most naks known (Issue p) p line outcome issues (issue-made charge trace usual first known p op is free missed alone outcome begins) all
      (λ then known_then at. later then (record {
        known = known_then;
        tracked = subst (Rattle.schedule_laws.proofs.Settling.IsTracked p places) (sym at) (tracked-first trace.sizes first.state p line outcome rests.wants first.state.lane goes);
        granted = granted-then charge trace usual next delivers p line places first.state first.state.lane p outcome then known_then at granted-first;
      }) at)

  -- at the line's home
  module _ (here : p ≡ home) where
    begins-here : (o : Outcome) → begin_at_home home (room_of charge sizes (first.state.share p)) op share ≡ Ok o → begin_op p home (room_of charge sizes (first.state.share p)) op share ≡ Ok o
    begins-here o e = subst (λ n. begin_op n home (room_of charge sizes (first.state.share p)) op share ≡ Ok o) (sym here) (begin-home home (room_of charge sizes (first.state.share p)) op share missed ∙ e)

    here-idle : is_pending share.header ≡ false
    here-idle = idle-at charge trace usual first known rests line

    done-here : (o : Outcome) → IsDoneHere o → (then : Past) → IsStage charge trace usual next delivers p line places then → then.state ≡ after_row_of sizes p line o first.state → Round then 0
    done-here o it then stage at =
        round-none charge trace usual next delivers p places then 0 stage.known
        (subst (λ (s : State). Rattle.schedule_laws.proofs.Single.AreEmpty s.lane) (sym at) (none-sent p line _ (subst (λ l. OnlySent p line l (sent_of p line o.sends first.state.lane)) it.1 (only-sent p line o.sends first.state.lane rests.lanes)))) stage.tracked

    calling-here : (o : Outcome) → IsCallingFor share o → (then : Past) → IsStage charge trace usual next delivers p line places then → then.state ≡ after_row_of sizes p line o first.state → Round then (2 * sizes.nodes)
    calling-here o it then stage at =
        let weight = listed-weight sizes.nodes home share.header.list home_in (unlisted-at charge trace usual first known rests line) in
        let w : sends_weight still sizes.nodes o.sends ≡ sends_weight still sizes.nodes (to_listed share.header.list) = ap (sends_weight still sizes.nodes) it.0 in
        let g = grants-home charge trace usual next delivers p line places first.state first.state.lane p o then stage.known at here in
        let zero = it.1 in
        round-sent charge trace usual next delivers p line places first.state first.state.lane p o then stage.known at (2 * sizes.nodes) rests.lanes stage (subst AllSettle (sym it.0) (each-settles _)) (omega arith)

    -- the owner of a line that the home's copy doesn't serve
    owned-here : share.header.dirty ≡ true → (o : ℕ) × (owner share.header ≡ o) × (o ≢ home) × (o < sizes.nodes) × (is_exclusive (copy_of (first.state.share o) line) ≡ true)
    owned-here dirty = go (rest-at charge trace usual first known rests line)
      where
        go : IsRestLine home share.header (λ n. copy_of (first.state.share n) line) → (o : ℕ) × (owner share.header ≡ o) × (o ≢ home) × (o < sizes.nodes) × (is_exclusive (copy_of (first.state.share o) line) ≡ true)
        go (inl clean) = absurd (let n : true ≡ false = sym dirty ∙ clean.1 in cc)
        go (inr (inl homes)) =
            absurd (let has : is_exclusive (copy_of (first.state.share p) line) ≡ true = ap (λ n. is_exclusive (copy_of (first.state.share n) line)) here ∙ homes.4 in
            let n : true ≡ false = sym (serves-exclusive op (copy_of (first.state.share p) line) has) ∙ missed in cc)
        go (inr (inr (o, owns))) = (o, owner-only share.header o owns.3, owns.4, (known.ranged.headers line).lists o (ap (λ l. listed l o) owns.3 ∙ listed-only o), owns.5)

    forward-here : (forward : Content) (o : Outcome) → IsBegunAs forward share o →
        ((then : Past) (stage : IsStage charge trace usual next delivers p line places then) (q : ℕ) → q < sizes.nodes → q ≢ home → is_exclusive (copy_of (then.state.share q) line) ≡ true → grants_at sizes then.state line ≡ 0 → OnlyOne home q (message line forward) then.state.lane → Round then 3) →
        (then : Past) → IsStage charge trace usual next delivers p line places then → then.state ≡ after_row_of sizes p line o first.state → Round then 3
    forward-here forward o it later then stage at =
        let own = owned-here it.0 in
        let lanes : OnlySent p line o.sends then.state.lane = subst (λ (s : State). OnlySent p line o.sends s.lane) (sym at) (only-sent p line o.sends first.state.lane rests.lanes) in
        let one : OnlySent p line ((own.0, forward) ∷ []) then.state.lane = subst (λ l. OnlySent p line l then.state.lane) (it.1 ∙ ap (λ n. (n, forward) ∷ []) own.1) lanes in
        let far : own.0 ≢ p = (λ same. own.2 (same ∙ here)) in
        later then stage own.0 own.3 own.2
        (ap (λ s. is_exclusive (copy_of s line)) (share-away charge trace usual next delivers p line places first.state first.state.lane p o then stage.known at own.0 far) ∙ own.4)
        (grants-home charge trace usual next delivers p line places first.state first.state.lane p o then stage.known at here ∙ it.2)
        (subst (λ n. OnlyOne n own.0 (message line forward) then.state.lane) here (one-sent p line own.0 forward then.state.lane one))

    pub issue-here : Round first (2 * sizes.nodes + 4)
    issue-here =
        let found = home-row home (room_of charge sizes (first.state.share p)) op share here-idle (room-free charge trace usual first known rests p) none in
        go found.0 (begins-here found.0 found.1) found.2
      where
        go : (o : Outcome) → begin_op p home (room_of charge sizes (first.state.share p)) op share ≡ Ok o → IsBegunHere home share o → Round first (2 * sizes.nodes + 4)
        go o e (inl it) =
            round-wider charge trace usual next delivers p places first 1 (2 * sizes.nodes + 4) 0 (omega arith)
            (issued o 0 0 e (subst (AllSent IsNoNak) (sym it.1) tt) (inl (it.0, it.2)) (done-here o it))
        go o e (inr (inl it)) =
            round-wider charge trace usual next delivers p places first (suc (2 * sizes.nodes)) (2 * sizes.nodes + 4) 0 (omega arith)
            (issued o (2 * sizes.nodes) 0 e (subst (AllSent IsNoNak) (sym it.0) (none-naks _ (each-settles _))) (inr it.2) (calling-here o it))
        go o e (inr (inr (inl it))) =
            round-wider charge trace usual next delivers p places first 4 (2 * sizes.nodes + 4) 0 (omega arith)
            (issued o 3 0 e (subst (AllSent IsNoNak) (sym it.1) (refl, tt)) (inr it.3)
            (forward-here (FwdGet home) o it (λ then stage q q_in far has waits single. round-forward charge trace usual next delivers p line places then stage q home_in q_in far has waits home single)))
        go o e (inr (inr (inr it))) =
            round-wider charge trace usual next delivers p places first 4 (2 * sizes.nodes + 4) 0 (omega arith)
            (issued o 3 0 e (subst (AllSent IsNoNak) (sym it.1) (refl, tt)) (inr it.3)
            (forward-here (FwdGetX home) o it (λ then stage q q_in far has waits single. round-forwardx charge trace usual next delivers p line places then stage q home_in q_in far has waits home single)))

  -- elsewhere
  module _ (apart : p ≢ home) where
    abbrev asked : Outcome
    asked = ask home op share

    off : (p == home) ≡ false
    off = grind (arith, nat_tests)

    pub begins-there : begin_op p home (room_of charge sizes (first.state.share p)) op share ≡ Ok asked
    begins-there = begin-away p home (room_of charge sizes (first.state.share p)) op share missed off

    pub asked-as : (content : Content) (c : Bool) → is_load op.kind ≡ c → cond c Get GetX ≡ content → asked.sends ≡ (home, content) ∷ []
    asked-as content c e f = (ask-row home op share).2 ∙ ap (λ k. (home, k) ∷ []) (ap (λ b. cond b Get GetX) e ∙ f)

    pub asked-begun : GoesOn asked
    asked-begun = let b = (ask-row home op share).0 in inr (b.0, b.1)

    pub issue-write : is_load op.kind ≡ false → Round first (2 * sizes.nodes + 2)
    issue-write write =
        let sends = asked-as GetX false write refl in
        round-wider charge trace usual next delivers p places first (suc (suc (2 * sizes.nodes))) (2 * sizes.nodes + 2) 0 (omega arith)
        (issued asked (suc (2 * sizes.nodes)) 0 begins-there (subst (AllSent IsNoNak) (sym sends) (refl, tt)) asked-begun
        (λ then stage at. round-getx charge trace usual next delivers first known rests p line op missed p_in home_in apart asked then stage at sends))

    -- by the home's own share no link is wanted, or one is free
    pub lacks-then : (sends : asked.sends ≡ (home, Get) ∷ []) (then : Past) (stage : IsStage charge trace usual next delivers p line places then) (at : then.state ≡ after_row_of sizes p line asked first.state) →
        lacks_link (room_of charge sizes (then.state.share home)) p (header_at sizes then.state line) ≡ lacks_link (room_of charge sizes (first.state.share home)) p (header_at sizes first.state line)
    lacks-then sends then stage at =
        let far : home ≢ p = (λ e. apart (sym e)) in
        let a = share-kept charge trace usual next delivers first known rests p line op missed apart asked Get sends then stage.known at home far in
        let b = headers-kept charge trace usual next delivers first known rests p line op missed apart asked Get sends then stage.known at line in
        (λ i. lacks_link (room_of charge sizes (a i)) p (b i))

    pub issue-load : is_load op.kind ≡ true → lacks_link (room_of charge sizes (first.state.share home)) p (header_at sizes first.state line) ≡ false → Round first 5
    issue-load load has =
        let sends = asked-as Get true load refl in
        issued asked 4 0 begins-there (subst (AllSent IsNoNak) (sym sends) (refl, tt)) asked-begun
        (λ then stage at. round-get charge trace usual next delivers first known rests p line op missed p_in home_in apart asked then stage at sends (lacks-then sends then stage at ∙ has))
