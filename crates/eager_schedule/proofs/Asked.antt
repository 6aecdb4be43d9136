-- A Get or a GetX that is the only message under way, sent from rest: the home answers it, with an Inv to each other listed node where there is one, or forwards it to the owner, and the rest settles.
use Rattle.std.proofs.Common.{◌≡◌, ◌≢◌, ℕ, suc, ◌+◌, ◌*◌, ◌<◌, ◌≤◌, ◌⊎◌, inl, inr, true, false, [], ◌∷◌, refl, arith, ap, sym, ◌∙◌, subst}
use Rattle.line_map.specs.Sizes.{Sizes, home_of}
use Rattle.op_model.specs.declared.operations.Op.{Op}
use Rattle.op_model.specs.Lines.{LineShare, Outcome, Room, is_exclusive, is_pending, owner}
use Rattle.op_model.specs.Messages.{Content, FwdGet, FwdGetX, Get, GetX, message, msg_class}
use Rattle.op_model.specs.Nodes.{listed}
use Rattle.op_model.specs.Run.Rest.{IsAtRest}
use Rattle.op_model.specs.Shares.{Lanes, Share, State, Trace, Unlinked, copy_of, header_of, line_share, room_of}
use Rattle.op_model.specs.Tables.Home.{on_get}
use Rattle.op_model.specs.Tables.Processor.{serves}
use Rattle.lane_bounds.proofs.Public.{after_row_of, sent_of, taken_of}
use Rattle.schedule_laws.proofs.Public.{IsForwarded, IsTracked, IsUsual, OnlyOne, OnlySent, one-sent}
use Rattle.schedule_laws.proofs.Public.{one-taken, only-sent}
use Rattle.eager_model.specs.Rows.{on_getx}
use Rattle.eager_model.specs.Runs.{Past}
use Rattle.eager_schedule.proofs.Moments.{idle-at, room-free, unlisted-at}
use Rattle.eager_schedule.proofs.Owners.{owned}
use Rattle.eager_schedule.proofs.Requests.{IsGiven, get-given, getx-given, met-get, met-getx}
use Rattle.eager_schedule.proofs.Rounds.{IsRound, round-wider}
use Rattle.eager_schedule.proofs.Runs.{IsReached}
use Rattle.eager_schedule.proofs.Stages.{round-forward, round-forwardx, round-sent, share-away, tracked-passive}
use Rattle.eager_schedule.proofs.Takes.{only-meets, round-taken, row_at}

module _ (trace : Trace) (usual : IsUsual trace) (first : Past) (reached_first : IsReached trace first) (rests : IsAtRest first.state) (p line : ℕ) (op : Op)
    (missed : serves op (copy_of (first.state.share p) line) ≡ false) (p_in : p < trace.sizes.nodes) (home_in : home_of trace.sizes line < trace.sizes.nodes) (apart : p ≢ home_of trace.sizes line)
    (outcome : Outcome) (content : Content) (sends : outcome.sends ≡ (home_of trace.sizes line, content) ∷ [])
    (then : Past) (reached : IsReached trace then) (is : then.state ≡ after_row_of trace.sizes p line outcome first.state) (tracked : IsTracked p (λ n. (first.state.share n).place) then.state) where
  abbrev sizes : Sizes
  sizes = trace.sizes

  abbrev home : ℕ
  home = home_of sizes line

  abbrev places : ℕ → ℕ
  places n = (first.state.share n).place

  abbrev own : Share
  own = then.state.share home

  abbrev share : LineShare
  share = line_share sizes own line

  abbrev room : Room
  room = room_of Unlinked sizes own

  abbrev Round : Past → ℕ → Type 0
  Round past most = IsRound trace usual p places past most

  kept : (n : ℕ) → n ≢ p → then.state.share n ≡ first.state.share n
  kept = share-away sizes first.state then.state first.state.lane p line outcome is

  kept-home : own ≡ first.state.share home
  kept-home = kept home (λ e. apart (sym e))

  only : OnlyOne p home (message line content) then.state.lane
  only =
      subst (λ (s : State). OnlyOne p home (message line content) s.lane) (sym is)
      (one-sent p line home content _ (subst (λ l. OnlySent p line l (sent_of p line outcome.sends first.state.lane)) sends (only-sent p line outcome.sends first.state.lane rests.lanes)))

  idle : is_pending share.header ≡ false
  idle = ap (λ s. is_pending (header_of sizes s line)) kept-home ∙ idle-at trace usual first reached_first rests line

  free : room.full ≡ false
  free = ap (λ s. (room_of Unlinked sizes s).full) kept-home ∙ room-free trace usual first reached_first rests home

  unlisted : listed share.header.list home ≡ false
  unlisted = ap (λ s. listed (header_of sizes s line).list home) kept-home ∙ unlisted-at trace usual first reached_first rests line

  abbrev taken : Lanes
  taken = taken_of p home (msg_class (message line content)) [] then.state.lane

  -- the home's row
  module _ (row : Outcome) (at_row : row_at sizes own home p line content ≡ row) where
    abbrev After : Past → Type 0
    After last = last.state ≡ after_row_of sizes home line row (record then.state { lane = taken })

    taking : (most : ℕ) → ((last : Past) → IsReached trace last → After last → Round last most) → Round then (suc most)
    taking most later =
        round-taken trace usual then reached p home line content only p_in home_in p places most
        (subst (λ o. (last : Past) → IsReached trace last → last.state ≡ after_row_of sizes home line o (record then.state { lane = taken }) → Round last most) (sym at_row) later)

    -- it is answered
    given : IsGiven sizes.nodes share row → Round then (suc (2 * sizes.nodes))
    given it =
        taking (2 * sizes.nodes) (λ last reached_last at.
        round-sent trace usual p places then.state taken home line row last at (2 * sizes.nodes) (one-taken p home (message line content) then.state.lane only) reached_last
        (tracked-passive trace usual p places then.state taken home line row last at it.1 tracked) it.0.0 it.0.1)

    -- it is forwarded to the owner
    forwarded : (forward : Content) → IsForwarded forward share row →
        ((last : Past) → IsReached trace last → IsTracked p places last.state → (o : ℕ) → o < sizes.nodes → o ≢ home → is_exclusive (copy_of (last.state.share o) line) ≡ true → OnlyOne home o (message line forward) last.state.lane → Round last 3) → Round then 4
    forwarded forward it later =
        taking 3 (λ last reached_last at.
        let found = owned trace usual first reached_first rests line p op missed (ap (λ s. (header_of sizes s line).dirty) (sym kept-home) ∙ it.0) away in
        let o : ℕ = found.0 in
        let owns = found.1 in
        let lanes : OnlySent home line row.sends last.state.lane = subst (λ (s : State). OnlySent home line row.sends s.lane) (sym at) (only-sent home line row.sends _ (one-taken p home (message line content) then.state.lane only)) in
        let one : OnlySent home line ((o, forward) ∷ []) last.state.lane = subst (λ l. OnlySent home line l last.state.lane) (it.2 ∙ ap (λ n. (n, forward) ∷ []) (first-owner ∙ owns.first)) lanes in
        later last reached_last (tracked-passive trace usual p places then.state taken home line row last at it.4 tracked) o owns.inside owns.far
        (ap (λ s. is_exclusive (copy_of s line)) (share-away sizes then.state last.state taken home line row at o owns.far ∙ kept o owns.other) ∙ owns.has)
        (one-sent home line o forward last.state.lane one))
      where
        away : (header_of sizes (first.state.share home) line).local ≡ true → is_exclusive (copy_of (first.state.share home) line) ≡ true → ⊥
        away local has = let n : true ≡ false = sym local ∙ ap (λ s. (header_of sizes s line).local) (sym kept-home) ∙ it.1 in cc

        first-owner : owner share.header ≡ owner (header_of sizes (first.state.share home) line)
        first-owner = ap (λ s. owner (header_of sizes s line)) kept-home

module _ (trace : Trace) (usual : IsUsual trace) (first : Past) (reached_first : IsReached trace first) (rests : IsAtRest first.state) (p line : ℕ) (op : Op)
    (missed : serves op (copy_of (first.state.share p) line) ≡ false) (p_in : p < trace.sizes.nodes) (home_in : home_of trace.sizes line < trace.sizes.nodes) (apart : p ≢ home_of trace.sizes line)
    (outcome : Outcome) (then : Past) (reached : IsReached trace then) (is : then.state ≡ after_row_of trace.sizes p line outcome first.state) (tracked : IsTracked p (λ n. (first.state.share n).place) then.state) where
  abbrev N : ℕ
  N = trace.sizes.nodes

  abbrev at_home : ℕ
  at_home = home_of trace.sizes line

  abbrev home_own : Share
  home_own = then.state.share at_home

  abbrev home_share : LineShare
  home_share = line_share trace.sizes home_own line

  abbrev home_room : Room
  home_room = room_of Unlinked trace.sizes home_own

  abbrev RoundOf : ℕ → Type 0
  RoundOf most = IsRound trace usual p (λ n. (first.state.share n).place) then most

  wider : (more most : ℕ) → more ≤ most → RoundOf more → RoundOf most
  wider more most less = round-wider trace usual p (λ n. (first.state.share n).place) then more most less

  -- a Get
  module _ (sends : outcome.sends ≡ (at_home, Get) ∷ []) where
    one-get : OnlyOne p at_home (message line Get) then.state.lane
    one-get = only trace usual first reached_first rests p line op missed p_in home_in apart outcome Get sends then reached is tracked

    get-is : row_at trace.sizes home_own at_home p line Get ≡ on_get home_room p home_share
    get-is = met-get at_home at_home p _ home_room home_share (only-meets trace usual then reached p at_home line Get one-get p_in home_in)

    pub round-get : RoundOf (2 * N + 5)
    round-get =
        go (get-given N at_home home_in home_room p home_share (idle trace usual first reached_first rests p line op missed p_in home_in apart outcome Get sends then reached is tracked) refl
        (free trace usual first reached_first rests p line op missed p_in home_in apart outcome Get sends then reached is tracked))
      where
        go : IsGiven N home_share (on_get home_room p home_share) ⊎ IsForwarded (FwdGet p) home_share (on_get home_room p home_share) → RoundOf (2 * N + 5)
        go (inl it) = wider (suc (2 * N)) (2 * N + 5) (omega arith) (given trace usual first reached_first rests p line op missed p_in home_in apart outcome Get sends then reached is tracked (on_get home_room p home_share) get-is it)
        go (inr it) =
            wider 4 (2 * N + 5) (omega arith)
            (forwarded trace usual first reached_first rests p line op missed p_in home_in apart outcome Get sends then reached is tracked (on_get home_room p home_share) get-is (FwdGet p) it
            (λ last reached_last tracked_last o o_in far has single. round-forward trace usual p (λ n. (first.state.share n).place) last reached_last tracked_last line o home_in o_in far has p single))

  -- a GetX
  module _ (sends : outcome.sends ≡ (at_home, GetX) ∷ []) where
    one-getx : OnlyOne p at_home (message line GetX) then.state.lane
    one-getx = only trace usual first reached_first rests p line op missed p_in home_in apart outcome GetX sends then reached is tracked

    getx-is : row_at trace.sizes home_own at_home p line GetX ≡ on_getx home_room p home_share
    getx-is = met-getx at_home at_home p _ home_room home_share (only-meets trace usual then reached p at_home line GetX one-getx p_in home_in)

    pub round-getx : RoundOf (2 * N + 5)
    round-getx =
        go (getx-given N at_home home_in home_room p home_share (idle trace usual first reached_first rests p line op missed p_in home_in apart outcome GetX sends then reached is tracked)
        (free trace usual first reached_first rests p line op missed p_in home_in apart outcome GetX sends then reached is tracked) (unlisted trace usual first reached_first rests p line op missed p_in home_in apart outcome GetX sends then reached is tracked))
      where
        go : IsGiven N home_share (on_getx home_room p home_share) ⊎ IsForwarded (FwdGetX p) home_share (on_getx home_room p home_share) → RoundOf (2 * N + 5)
        go (inl it) = wider (suc (2 * N)) (2 * N + 5) (omega arith) (given trace usual first reached_first rests p line op missed p_in home_in apart outcome GetX sends then reached is tracked (on_getx home_room p home_share) getx-is it)
        go (inr it) =
            wider 4 (2 * N + 5) (omega arith)
            (forwarded trace usual first reached_first rests p line op missed p_in home_in apart outcome GetX sends then reached is tracked (on_getx home_room p home_share) getx-is (FwdGetX p) it
            (λ last reached_last tracked_last o o_in far has single. round-forwardx trace usual p (λ n. (first.state.share n).place) last reached_last tracked_last line o home_in o_in far has p single))
