-- A load that wants a link where none is free: its Get is refused once, a line is called in for its links, and the load is issued again.
use Rattle.std.proofs.Common.{◌≡◌, ◌≢◌, ℕ, suc, ◌+◌, ◌*◌, ◌-◌, ◌<◌, ◌≤◌, inl, inr, Bool, true, false, cond, not, nat_lt, ◌==◌, ◌&&◌, [], ◌∷◌, slice_get, refl, arith, ap, sym, ◌∙◌, subst, Option, Some, None, is_ok}
use Rattle.std.proofs.lemmas.Bool.Decides.{nat_tests}
use Rattle.line_map.specs.Sizes.{Sizes, home_of, line_of}
use Rattle.op_model.specs.declared.events.Event.{Event}
use Rattle.op_model.specs.declared.events.Event.TheVariants.{Hit, Issue}
use Rattle.op_model.specs.declared.messages.NakCause.TheVariants.{NoLink}
use Rattle.op_model.specs.declared.messages.Msg.{Msg}
use Rattle.op_model.specs.declared.operations.Op.{Op}
use Rattle.op_model.specs.Events.Node.{is_outstanding}
use Rattle.op_model.specs.Lines.{Absent, Copy, LineShare, Outcome, Room, is_empty, is_idle, is_pending, nobody_listed}
use Rattle.op_model.specs.Messages.{Get, message, msg_class}
use Rattle.op_model.specs.Nodes.{count, listed}
use Rattle.op_model.specs.Operations.{is_load}
use Rattle.op_model.specs.Run.Rest.{IsAtRest}
use Rattle.op_model.specs.Run.Runs.{Past}
use Rattle.op_model.specs.Run.Schedules.{make_room, other_in_set, processor_event}
use Rattle.op_model.specs.Shares.{Charge, State, Trace, conflicts, copy_of, links_among, is_linked, links_in, program, put_share, room_of, share_at}
use Rattle.op_model.specs.Tables.Home.{lacks_link, on_get, refuse}
use Rattle.op_model.specs.Tables.Processor.{ask, holds_link, serves}
use Rattle.op_model.proofs.Public.{ask-undone, three_parts}
use Rattle.one_history.proofs.Public.{copy-other, copy-same}
use Rattle.lane_bounds.proofs.Public.{after_act, after_row_of, asks_victim, is_fit, row_at, taken_of, taking}
use Rattle.schedule_laws.proofs.Alone.{IsAlone, absent-alone, absent-other, alone-absent}
use Rattle.schedule_laws.proofs.Asked.{headers-kept, met, met-get, share-kept}
use Rattle.schedule_laws.proofs.Begins.{hit-missed}
use Rattle.schedule_laws.proofs.Gets.{asks-is, calm, free, idle, only}
use Rattle.schedule_laws.proofs.Issues.{Chooses, asked-as, asked-begun, begins-there, issue-load, issued, lacks-then}
use Rattle.schedule_laws.proofs.Known.{Delivers, IsKnown, IsNoNak, IsUsual, naks_of}
use Rattle.schedule_laws.proofs.Recalled.{IsCalledIn}
use Rattle.schedule_laws.proofs.Recalls.{IsRecalled, header_at, recalls-end}
use Rattle.schedule_laws.proofs.RestMoments.{free-at, idle-at, unlisted-at}
use Rattle.schedule_laws.proofs.Rounds.{IsRound, round-behind, round-wider, settled-rests}
use Rattle.schedule_laws.proofs.Settling.{at-share, left_over}
use Rattle.schedule_laws.proofs.Single.{OnlyOne, one-front, one-taken}
use Rattle.schedule_laws.proofs.Stages.{IsStage}
use Rattle.schedule_laws.proofs.Takes.{round-calling}
use Rattle.schedule_laws.proofs.Under.{AllSent}
use Rattle.schedule_laws.proofs.Wanting.{recalled-first, recalled-weight}

-- a round counted from the same places
pub round-places : (charge : Charge) (trace : Trace) (usual : IsUsual trace) (next : State → Option Event) (delivers : Delivers charge trace usual next) (p : ℕ) (f g : ℕ → ℕ) (past : Past) (most naks : ℕ) → ((n : ℕ) → f n ≡ g n) →
    IsRound charge trace usual next delivers p f past most naks → IsRound charge trace usual next delivers p g past most naks
round-places charge trace usual next delivers p f g past most naks same round =
    record { events = round.events; end = round.end; course = round.course; within = round.within; few = round.few; known = round.known; rests = round.rests; done = round.done ∙ ap suc (same p); others = λ n apart. round.others n apart ∙ same n }

-- a Get that lacks a link is refused for it where no line waits
pub refused-row : (room : Room) (p : ℕ) (share : LineShare) → is_pending share.header ≡ false → room.link_pending ≡ false → room.full ≡ false → lacks_link room p share.header ≡ true → on_get room p share ≡ refuse p NoLink share
unfolding on_get
refused-row room p share idle calm free lacks = rw (idle, lacks, calm, free) refl

-- a copy that doesn't serve a load is none
load-absent : (op : Op) (copy : Copy) → is_load op.kind ≡ true → serves op copy ≡ false → copy ≡ Absent
load-absent op copy load missed = grind arith

serves-absent : (op : Op) (copy : Copy) → copy ≡ Absent → serves op copy ≡ false
serves-absent op copy none = ap (serves op) none

ask-absent : (home : ℕ) (op : Op) (share : LineShare) → is_load op.kind ≡ true → (ask home op share).share.copy ≡ share.copy
unfolding ask
ask-absent home op share load = rw load refl

-- a list that holds links holds one, and one of nobody holds none
some-links : (linked : Bool) (n : ℕ) → (linked && not (n == 0) && not (n == 1)) ≡ true → 0 < cond (n == 0) 0 (Prim.Native.Nat.pred n)
some-links linked n e = grind (arith, nat_tests)

-- the processor's event where its copy doesn't serve and no other line is in the set
pub issues-next : (charge : Charge) (trace : Trace) (usual : IsUsual trace) (past : Past) (known : IsKnown charge trace past) (op : Op) → slice_get (program trace op.node) (past.state.share op.node).place ≡ Some op → is_outstanding (past.state.share op.node).want ≡ false →
    serves op (copy_of (past.state.share op.node) (line_of trace.sizes op.word)) ≡ false → other_in_set trace.sizes (past.state.share op.node) (line_of trace.sizes op.word) ≡ None → processor_event charge trace.sizes (program trace) past.state op ≡ Issue op.node
issues-next charge trace usual past known op is free missed alone =
    let hit = hit-missed charge trace usual past known op.node op is free missed in
    ap (λ r. cond (is_ok r) (Hit op.node) (make_room trace.sizes op.node (past.state.share op.node) (other_in_set trace.sizes (past.state.share op.node) (line_of trace.sizes op.word)))) hit
    ∙ ap (make_room trace.sizes op.node (past.state.share op.node)) alone

module _ (charge : Charge) (trace : Trace) (usual : IsUsual trace) (next : State → Option Event) (delivers : Delivers charge trace usual next) (op : Op) (first : Past) (known : IsKnown charge trace first) (rests : IsAtRest first.state)
    (is : slice_get (program trace op.node) (first.state.share op.node).place ≡ Some op) (p_in : op.node < trace.sizes.nodes)
    (missed : serves op (copy_of (first.state.share op.node) (line_of trace.sizes op.word)) ≡ false) (alone : conflicts trace.sizes (first.state.share op.node) (line_of trace.sizes op.word) ≡ false)
    (chooses : Chooses charge trace next (λ n. (first.state.share n).place) op) (load : is_load op.kind ≡ true)
    (issues : next first.state ≡ Some (Issue op.node))
    (apart : op.node ≢ home_of trace.sizes (line_of trace.sizes op.word)) (home_in : home_of trace.sizes (line_of trace.sizes op.word) < trace.sizes.nodes) where
  abbrev sizes : Sizes
  sizes = trace.sizes

  abbrev p : ℕ
  p = op.node

  abbrev line : ℕ
  line = line_of sizes op.word

  abbrev home : ℕ
  home = home_of sizes line

  abbrev places : ℕ → ℕ
  places n = (first.state.share n).place

  -- the load again, when a line was called in and the machine is at rest
  module _ (v : ℕ) (of_home : home_of sizes v ≡ home) (some : holds_link (room_of charge sizes (first.state.share home)) (header_at sizes first.state v) ≡ true)
      (end : Past) (known_end : IsKnown charge trace end) (rests_end : IsAtRest end.state) (recalled : IsRecalled sizes v p first.state end.state) where
    place-same : (n : ℕ) → (end.state.share n).place ≡ places n
    place-same n = go (n == p) refl
      where
        go : (c : Bool) → (n == p) ≡ c → (end.state.share n).place ≡ places n
        go true e = let same : p ≡ n = grind (arith, nat_tests) in subst (λ k. (end.state.share k).place ≡ places k) same recalled.place
        go false e = let other : n ≢ p = grind (arith, nat_tests) in (recalled.others n other).1

    missed-end : serves op (copy_of (end.state.share p) line) ≡ false
    missed-end = serves-absent op _ (recalled.absent line (load-absent op _ load missed))

    alone-end : IsAlone sizes (end.state.share p) line
    alone-end g other same = recalled.absent g (alone-absent sizes (first.state.share p) line alone g other same)

    -- the line that was called in lists nobody
    over : nobody_listed (header_at sizes end.state v).list ≡ true
    over = go recalled.called
      where
        go : IsCalledIn (header_at sizes end.state v) → nobody_listed (header_at sizes end.state v).list ≡ true
        go (inl waits) = absurd (let idle_v = idle-at charge trace usual end known_end rests_end v in let n : true ≡ false = ap (λ w. not (is_idle w)) (sym waits.0) ∙ idle_v in cc)
        go (inr done) = done.1

    none-links : links_in (header_at sizes end.state v) ≡ 0
    none-links = ap (λ c. cond {A = ℕ} c 0 (Prim.Native.Nat.pred (count (header_at sizes end.state v).list))) over

    -- a link is free now, or none is wanted
    has-link : lacks_link (room_of charge sizes (end.state.share home)) p (header_at sizes end.state line) ≡ false
    has-link = go (line == v) refl (is_linked charge) refl
      where
        go : (c : Bool) → (line == v) ≡ c → (l : Bool) → is_linked charge ≡ l → lacks_link (room_of charge sizes (end.state.share home)) p (header_at sizes end.state line) ≡ false
        go c e false l = unlinked (is_linked charge) (listed (header_at sizes end.state line).list p) (nobody_listed (header_at sizes end.state line).list) (nat_lt (links_among (end.state.share home).headers) sizes.links) l
          where
            unlinked : (a b c d : Bool) → a ≡ false → ((a && not b && not c) && not d) ≡ false
            unlinked a b c d e = grind arith
        go true e true l =
            let same : v ≡ line = grind (arith, nat_tests) in
            nobody (is_linked charge) (listed (header_at sizes end.state line).list p) (nobody_listed (header_at sizes end.state line).list) (nat_lt (links_among (end.state.share home).headers) sizes.links) (subst (λ g. nobody_listed (header_at sizes end.state g).list ≡ true) same over)
          where
            nobody : (a b c d : Bool) → c ≡ true → ((a && not b && not c) && not d) ≡ false
            nobody a b c d e = grind arith
        go false e true l =
            let a = recalled.links in
            let b = none-links in
            let c : links_among (first.state.share (home_of sizes v)).headers ≤ sizes.links = known.bounded.links l (home_of sizes v) in
            let d : 0 < links_in (header_at sizes first.state v) = some-links (is_linked charge) (count (header_at sizes first.state v).list) some in
            let f : links_among (end.state.share (home_of sizes v)).headers ≡ links_among (end.state.share home).headers = ap (λ n. links_among (end.state.share n).headers) of_home in
            free-link (is_linked charge) (listed (header_at sizes end.state line).list p) (nobody_listed (header_at sizes end.state line).list) (links_among (end.state.share home).headers) sizes.links (omega arith)
          where
            free-link : (a b c : Bool) (held links : ℕ) → held < links → ((a && not b && not c) && not (nat_lt held links)) ≡ false
            free-link a b c held links less = grind (arith, nat_tests)

    pub again : IsRound charge trace usual next delivers p places end 5 0
    again =
        let next_is : slice_get (program trace p) (end.state.share p).place ≡ Some op = ap (slice_get (program trace p)) (place-same p) ∙ is in
        let free_end = ap is_outstanding (free-at charge trace usual end known_end rests_end p) in
        let goes : next end.state ≡ Some (Issue p) = chooses end rests_end place-same ∙ ap Some (issues-next charge trace usual end known_end op next_is free_end missed-end (absent-other sizes (end.state.share p) line alone-end)) in
        round-places charge trace usual next delivers p (λ n. (end.state.share n).place) places end 5 0 place-same
        (issue-load charge trace usual next delivers op end known_end rests_end next_is p_in missed-end (absent-alone sizes (end.state.share p) line alone-end) goes apart load has-link)

  module _ (lacks : lacks_link (room_of charge sizes (first.state.share home)) p (header_at sizes first.state line) ≡ true) (then : Past) (stage : IsStage charge trace usual next delivers p line places then)
      (at : then.state ≡ after_row_of sizes p line (ask home op (share_at sizes first.state p line)) first.state) where
    abbrev sent : Outcome
    sent = ask home op (share_at sizes first.state p line)

    abbrev sends_get : sent.sends ≡ (home, Get) ∷ []
    sends_get = asked-as charge trace usual next delivers op first known rests is p_in missed alone issues apart Get true load refl

    abbrev m : Msg
    m = message line Get

    single : OnlyOne p home m then.state.lane
    single = only charge trace usual next delivers first known rests p line op missed p_in home_in apart sent Get sends_get then stage at

    abbrev row : Outcome
    row = row_at charge sizes then.state p home line Get

    row-is : row ≡ refuse p NoLink (share_at sizes then.state home line)
    row-is =
        met-get home home p (is_empty (copy_of (then.state.share home) line)) (room_of charge sizes (then.state.share home)) (share_at sizes then.state home line)
        (met charge trace usual next delivers first known rests p line op missed apart sent Get sends_get then stage.known at (one-front p home m then.state.lane single) refl refl)
        ∙ refused-row (room_of charge sizes (then.state.share home)) p (share_at sizes then.state home line)
        (idle charge trace usual next delivers first known rests p line op missed p_in home_in apart sent Get sends_get then stage at)
        (calm charge trace usual next delivers first known rests p line op missed p_in home_in apart sent Get sends_get then stage at)
        (free charge trace usual next delivers first known rests p line op missed p_in home_in apart sent Get sends_get then stage at)
        (lacks-then charge trace usual next delivers op first known rests is p_in missed alone issues apart sends_get then stage at ∙ lacks)

    asks : asks_victim charge sizes then.state p home line Get ≡ true
    asks = asks-is charge trace usual next delivers first known rests p line op missed p_in home_in apart sent then stage at sends_get
        ∙ (lacks-then charge trace usual next delivers op first known rests is p_in missed alone issues apart sends_get then stage at ∙ lacks)

    -- the node that asks has its copies and its place as before
    place-kept : (then.state.share p).place ≡ places p
    unfolding put_share
    place-kept = ap (λ s. (s.share p).place) at ∙ at-share sizes first.state first.state.lane p line sent (λ s. s.place ≡ places p) p (λ far. absurd (far refl)) (λ _. ap (λ d. cond d (suc (places p)) (places p)) (ask-undone home op (share_at sizes first.state p line)))

    absent-kept : (x : ℕ) → copy_of (first.state.share p) x ≡ Absent → copy_of (then.state.share p) x ≡ Absent
    absent-kept x none =
        ap (λ s. copy_of (s.share p) x) at ∙ at-share sizes first.state first.state.lane p line sent (λ s. copy_of s x ≡ Absent) p (λ far. absurd (far refl)) (λ _. mine (x == line) refl)
      where
        mine : (c : Bool) → (x == line) ≡ c → copy_of (put_share sizes (p == home_of sizes line) line sent.done sent.share (first.state.share p)) x ≡ Absent
        mine true e =
            let same : x ≡ line = grind (arith, nat_tests) in
            ap (copy_of (put_share sizes (p == home_of sizes line) line sent.done sent.share (first.state.share p))) same
            ∙ copy-same sizes (p == home_of sizes line) line sent.done sent.share (first.state.share p) ∙ ask-absent home op (share_at sizes first.state p line) load ∙ ap (copy_of (first.state.share p)) (sym same) ∙ none
        mine false e =
            let other : x ≢ line = grind (arith, nat_tests) in
            copy-other sizes (p == home_of sizes line) line sent.done sent.share (first.state.share p) x other ∙ none

    -- the refusal, and the round that comes when the line that is called in has settled
    pub round-wanting : IsRound charge trace usual next delivers p places then (suc ((2 * sizes.nodes - 1) + 5)) 1
    unfolding after_act
    round-wanting =
        round-calling charge trace usual next delivers then stage.known p home m single p_in home_in p places ((2 * sizes.nodes - 1) + 5) 0 asks (subst (λ l. naks_of l ≤ 1) (sym (ap (λ o. o.sends) row-is)) (omega arith))
        (λ v last fit known_last state_is. called v last known_last fit state_is)
      where
        called : (v : ℕ) (last : Past) → IsKnown charge trace last → is_fit charge sizes then.state home v ≡ true →
            last.state ≡ after_act sizes (record (taking charge sizes then.state p home (msg_class m) m []) { called = Some v }) then.state → IsRound charge trace usual next delivers p places last ((2 * sizes.nodes - 1) + 5) 0
        called v last known_last fit state_is =
            let far : home ≢ p = (λ e. apart (sym e)) in
            let both = three_parts (home_of sizes v == home) (holds_link (room_of charge sizes (then.state.share home)) (share_at sizes then.state home v).header) (not (is_pending (share_at sizes then.state home v).header)) fit in
            let of_home : home_of sizes v ≡ home = here both.0 in
            let shares = share-kept charge trace usual next delivers first known rests p line op missed apart sent Get sends_get then stage.known at in
            let headers = headers-kept charge trace usual next delivers first known rests p line op missed apart sent Get sends_get then stage.known at in
            let some : holds_link (room_of charge sizes (first.state.share home)) (header_at sizes first.state v) ≡ true = sym (λ i. holds_link (room_of charge sizes (shares home far i)) (headers v i)) ∙ both.1 in
            let empty = one-taken p home m then.state.lane single in
            let it = recalled-first sizes first.state then.state (taken_of p home (msg_class m) [] then.state.lane) empty p home line v apart refl of_home shares headers (λ n. free-at charge trace usual first known rests n) place-kept absent-kept row (ap (λ o. o.share) row-is) (ap (λ o. o.done) row-is) (ap (λ o. o.sends) row-is) in
            let weight = recalled-weight sizes first.state then.state (taken_of p home (msg_class m) [] then.state.lane) empty p home line v apart refl of_home shares headers (λ n. free-at charge trace usual first known rests n) place-kept absent-kept row (ap (λ o. o.share) row-is) (ap (λ o. o.done) row-is) (ap (λ o. o.sends) row-is) home_in
            (subst (λ n. listed (header_at sizes first.state v).list n ≡ false) of_home (unlisted-at charge trace usual first known rests v)) in
            let now : IsRecalled sizes v p first.state last.state = subst (IsRecalled sizes v p first.state) (sym state_is) it in
            let light : left_over sizes v last.state + 1 ≤ 2 * sizes.nodes = subst (λ s. left_over sizes v s + 1 ≤ 2 * sizes.nodes) (sym state_is) weight in
            let settled = recalls-end charge trace usual next delivers v p first.state (λ x. idle-at charge trace usual first known rests x) last known_last now (2 * sizes.nodes - 1) (omega (arith, light)) in
            round-behind charge trace usual next delivers p places last (2 * sizes.nodes - 1) 5 0 (λ q. IsRecalled sizes v p first.state q.state) settled
            (again v of_home some settled.end settled.known (settled-rests charge trace usual next delivers (λ q. IsRecalled sizes v p first.state q.state) last (2 * sizes.nodes - 1) settled) settled.holds)
          where
            here : (home_of sizes v == home) ≡ true → home_of sizes v ≡ home
            here e = grind (arith, nat_tests)

  -- a load that wants a link
  pub issue-wanting : lacks_link (room_of charge sizes (first.state.share home)) p (header_at sizes first.state line) ≡ true → IsRound charge trace usual next delivers p places first (2 * sizes.nodes + 6) 1
  issue-wanting lacks =
      let sends = asked-as charge trace usual next delivers op first known rests is p_in missed alone issues apart Get true load refl in
      round-wider charge trace usual next delivers p places first (suc (suc ((2 * sizes.nodes - 1) + 5))) (2 * sizes.nodes + 6) 1 (few sizes.nodes p p_in)
      (issued charge trace usual next delivers op first known rests is p_in missed alone issues (ask home op (share_at sizes first.state p line)) (suc ((2 * sizes.nodes - 1) + 5)) 1
      (begins-there charge trace usual next delivers op first known rests is p_in missed alone issues apart) (subst (AllSent IsNoNak) (sym sends) (refl, tt)) (asked-begun charge trace usual next delivers op first known rests is p_in missed alone issues apart)
      (λ then stage at. round-wanting lacks then stage at))
    where
      few : (n k : ℕ) → k < n → suc (suc ((2 * n - 1) + 5)) ≤ 2 * n + 6
      few n k less = omega arith
