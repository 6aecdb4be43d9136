-- An operation that is issued from rest: at its line's home it is done at once or forwarded to the owner, and elsewhere the home is asked; the rest settles.
use Rattle.std.proofs.Common.{◌≡◌, ◌≢◌, ℕ, suc, ◌+◌, ◌*◌, ◌<◌, ◌⊎◌, inl, inr, Bool, true, false, cond, ◌==◌, [], ◌∷◌, slice_get, refl, arith, ap, sym, ◌∙◌, subst, Some, Ok}
use Rattle.std.proofs.lemmas.Bool.{eqb-false, eqb-true, ne_eqb}
use Rattle.line_map.specs.Sizes.{Sizes, home_of, line_of}
use Rattle.op_model.specs.declared.events.Event.TheVariants.{Issue}
use Rattle.op_model.specs.declared.operations.Op.{Op}
use Rattle.op_model.specs.Lines.{LineShare, Outcome, Room, is_exclusive, is_outstanding, is_pending, owner}
use Rattle.op_model.specs.Messages.{Content, FwdGet, FwdGetX, Get, GetX, message}
use Rattle.op_model.specs.Nodes.{listed}
use Rattle.op_model.specs.Operations.{is_load}
use Rattle.op_model.specs.Run.Rest.{IsAtRest}
use Rattle.op_model.specs.Run.Schedules.{serial_next}
use Rattle.op_model.specs.Shares.{State, Trace, Unlinked, conflicts, copy_of, header_of, line_share, program, room_of, want_on}
use Rattle.op_model.specs.Tables.Processor.{ask, serves}
use Rattle.lane_bounds.proofs.Public.{after_row_of}
use Rattle.node_range.proofs.Public.{next-in}
use Rattle.schedule_laws.proofs.Public.{GoesOn, IsBegunAs, IsTracked, IsUsual, OnlyOne, OnlySent, ask-row, tracked-first}
use Rattle.schedule_laws.proofs.Public.{one-sent, only-sent, serves-exclusive}
use Rattle.eager_model.specs.Rows.{begin_op}
use Rattle.eager_model.specs.Runs.{Past, past_after}
use Rattle.eager_schedule.proofs.Asked.{round-get, round-getx}
use Rattle.eager_schedule.proofs.Begins.{issue-made}
use Rattle.eager_schedule.proofs.Moments.{idle-at, room-free, unlisted-at}
use Rattle.eager_schedule.proofs.Owners.{owned}
use Rattle.eager_schedule.proofs.Requests.{IsDoneHere, begin-away, home-row}
use Rattle.eager_schedule.proofs.Rounds.{IsRound, round-after, round-wider}
use Rattle.eager_schedule.proofs.Runs.{IsReached, reached-event}
use Rattle.eager_schedule.proofs.Stages.{round-forward, round-forwardx, round-sent, share-away}

module _ (trace : Trace) (usual : IsUsual trace) (op : Op) (first : Past) (reached : IsReached trace first) (rests : IsAtRest first.state) (is : slice_get (program trace op.node) (first.state.share op.node).place ≡ Some op)
    (missed : serves op (copy_of (first.state.share op.node) (line_of trace.sizes op.word)) ≡ false) (alone : conflicts trace.sizes (first.state.share op.node) (line_of trace.sizes op.word) ≡ false)
    (issues : serial_next Unlinked trace.sizes (program trace) trace.ops first.state ≡ Some (Issue op.node)) where
  abbrev sizes : Sizes
  sizes = trace.sizes

  abbrev p : ℕ
  p = op.node

  abbrev line : ℕ
  line = line_of sizes op.word

  abbrev home : ℕ
  home = home_of sizes line

  abbrev places : ℕ → ℕ
  places n = (first.state.share n).place

  abbrev share : LineShare
  share = line_share sizes (first.state.share p) line

  abbrev room : Room
  room = room_of Unlinked sizes (first.state.share p)

  abbrev Round : Past → ℕ → Type 0
  Round past most = IsRound trace usual p places past most

  ends : (p < sizes.nodes) × (home < sizes.nodes)
  ends = next-in trace usual.ops p (first.state.share p).place line op (is, refl)

  free : is_outstanding (first.state.share p).want ≡ false
  free = ap is_outstanding (rests.wants p)

  -- an Issue that does this row, and then a round
  issued : (outcome : Outcome) (most : ℕ) → begin_op p home room op share ≡ Ok outcome → GoesOn outcome →
      ((then : Past) → IsReached trace then → then.state ≡ after_row_of sizes p line outcome first.state → IsTracked p places then.state → Round then most) → Round first (suc most)
  issued outcome most begins goes later =
      let made = issue-made trace first p op is free missed alone outcome begins in
      round-after trace usual p places first most (Issue p) made.0 issues made.1
      (later (past_after sizes first made.0) (reached-event trace first reached (Issue p) made.0 made.1) made.2
      (subst (IsTracked p places) (sym made.2) (tracked-first trace.sizes first.state p line outcome rests.wants first.state.lane goes)))

  -- at the line's home
  module _ (here : p ≡ home) where
    own-header : header_of sizes (first.state.share p) line ≡ header_of sizes (first.state.share home) line
    own-header = ap (λ n. header_of sizes (first.state.share n) line) here

    row-here : (o : Outcome) × (begin_op p home room op share ≡ Ok o) × (IsDoneHere sizes.nodes o ⊎ IsBegunAs (FwdGet home) share o ⊎ IsBegunAs (FwdGetX home) share o)
    row-here =
        let found = home-row sizes.nodes home ends.1 room op share missed (ap is_pending own-header ∙ idle-at trace usual first reached rests line) (room-free trace usual first reached rests p) (ap (λ w. want_on sizes w line) (rests.wants p))
        (ap (λ h. listed h.list home) own-header ∙ unlisted-at trace usual first reached rests line) in
        (found.0, subst (λ n. begin_op n home room op share ≡ Ok found.0) (sym here) found.1, found.2)

    -- a forward goes to the owner
    forwarded-here : (forward : Content) (o : Outcome) → begin_op p home room op share ≡ Ok o → IsBegunAs forward share o →
        ((then : Past) → IsReached trace then → IsTracked p places then.state → (q : ℕ) → q < sizes.nodes → q ≢ home → is_exclusive (copy_of (then.state.share q) line) ≡ true → OnlyOne home q (message line forward) then.state.lane → Round then 3) → Round first 4
    forwarded-here forward o begins it later =
        issued o 3 begins (inr it.3)
        (λ then reached_then at tracked.
        let found = owned trace usual first reached rests line p op missed (ap (λ h. h.dirty) (sym own-header) ∙ it.0) away in
        let q : ℕ = found.0 in
        let owns = found.1 in
        let lanes : OnlySent p line o.sends then.state.lane = subst (λ (s : State). OnlySent p line o.sends s.lane) (sym at) (only-sent p line o.sends first.state.lane rests.lanes) in
        let one : OnlySent p line ((q, forward) ∷ []) then.state.lane = subst (λ l. OnlySent p line l then.state.lane) (it.1 ∙ ap (λ n. (n, forward) ∷ []) (ap owner own-header ∙ owns.first)) lanes in
        later then reached_then tracked q owns.inside owns.far
        (ap (λ s. is_exclusive (copy_of s line)) (share-away sizes first.state then.state first.state.lane p line o at q owns.other) ∙ owns.has)
        (subst (λ n. OnlyOne n q (message line forward) then.state.lane) here (one-sent p line q forward then.state.lane one)))
      where
        away : (header_of sizes (first.state.share home) line).local ≡ true → is_exclusive (copy_of (first.state.share home) line) ≡ true → ⊥
        away local has =
            let mine : is_exclusive (copy_of (first.state.share p) line) ≡ true = ap (λ n. is_exclusive (copy_of (first.state.share n) line)) here ∙ has in
            let n : true ≡ false = sym (serves-exclusive op (copy_of (first.state.share p) line) mine) ∙ missed in cc

    pub issue-here : Round first (2 * sizes.nodes + 6)
    issue-here = go row-here.0 row-here.1 row-here.2
      where
        go : (o : Outcome) → begin_op p home room op share ≡ Ok o → IsDoneHere sizes.nodes o ⊎ IsBegunAs (FwdGet home) share o ⊎ IsBegunAs (FwdGetX home) share o → Round first (2 * sizes.nodes + 6)
        go o begins (inl it) =
            round-wider trace usual p places first (suc (2 * sizes.nodes)) (2 * sizes.nodes + 6) (omega arith)
            (issued o (2 * sizes.nodes) begins (inl (it.0, it.1)) (λ then reached_then at tracked. round-sent trace usual p places first.state first.state.lane p line o then at (2 * sizes.nodes) rests.lanes reached_then tracked it.2.0 it.2.1))
        go o begins (inr (inl it)) =
            round-wider trace usual p places first 4 (2 * sizes.nodes + 6) (omega arith)
            (forwarded-here (FwdGet home) o begins it (λ then reached_then tracked q q_in far has single. round-forward trace usual p places then reached_then tracked line q ends.1 q_in far has home single))
        go o begins (inr (inr it)) =
            round-wider trace usual p places first 4 (2 * sizes.nodes + 6) (omega arith)
            (forwarded-here (FwdGetX home) o begins it (λ then reached_then tracked q q_in far has single. round-forwardx trace usual p places then reached_then tracked line q ends.1 q_in far has home single))

  -- elsewhere
  module _ (apart : p ≢ home) where
    abbrev asked : Outcome
    asked = ask home op share

    off : (p == home) ≡ false
    off = ne_eqb p home apart

    asked-as : (c : Bool) → is_load op.kind ≡ c → asked.sends ≡ (home, cond c Get GetX) ∷ []
    asked-as c e = (ask-row home op share).2 ∙ ap (λ b. (home, cond b Get GetX) ∷ []) e

    pub issue-away : Round first (2 * sizes.nodes + 6)
    issue-away = go (is_load op.kind) refl
      where
        begun : GoesOn asked
        begun = let b = (ask-row home op share).0 in inr (b.0, b.1)

        enough : Round first (suc (2 * sizes.nodes + 5)) → Round first (2 * sizes.nodes + 6)
        enough round = round-wider trace usual p places first (suc (2 * sizes.nodes + 5)) (2 * sizes.nodes + 6) (omega arith) round

        go : (c : Bool) → is_load op.kind ≡ c → Round first (2 * sizes.nodes + 6)
        go true load =
            enough (issued asked (2 * sizes.nodes + 5) (begin-away p home room op share missed off) begun
            (λ then reached_then at tracked. round-get trace usual first reached rests p line op missed ends.0 ends.1 apart asked then reached_then at tracked (asked-as true load)))
        go false write =
            enough (issued asked (2 * sizes.nodes + 5) (begin-away p home room op share missed off) begun
            (λ then reached_then at tracked. round-getx trace usual first reached rests p line op missed ends.0 ends.1 apart asked then reached_then at tracked (asked-as false write)))

  -- wherever it is
  pub issue-any : Round first (2 * sizes.nodes + 6)
  issue-any = go (p == home) refl
    where
      go : (c : Bool) → (p == home) ≡ c → Round first (2 * sizes.nodes + 6)
      go true e = issue-here (eqb-true p home e)
      go false e = issue-away (eqb-false p home e)
