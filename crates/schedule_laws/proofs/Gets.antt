-- A Get or a GetX that is the only message under way, where no link is wanted or one is free: the home answers it, forwards it, or calls
-- the other copies in, and the rest settles.
use Rattle.std.proofs.Common.{◌≡◌, ◌≢◌, ℕ, suc, ◌+◌, ◌*◌, ◌<◌, ◌≤◌, ◌⊎◌, inl, inr, Bool, true, false, not, ◌==◌, ◌&&◌, [], ◌∷◌, refl, arith, ap, sym, ◌∙◌, subst, Option}
use Rattle.std.proofs.lemmas.Bool.Decides.{nat_tests}
use Rattle.line_map.specs.Sizes.{Sizes, home_of}
use Rattle.op_model.specs.declared.events.Event.{Event}
use Rattle.op_model.specs.declared.messages.Msg.{Msg}
use Rattle.op_model.specs.declared.operations.Op.{Op}
use Rattle.op_model.specs.Lines.{Header, LineShare, Outcome, Room, is_empty, is_exclusive, is_pending, to_listed}
use Rattle.op_model.specs.Messages.{Content, FwdGet, FwdGetX, Get, GetX, Put, PutX, message, msg_class}
use Rattle.op_model.specs.Nodes.{Nodes, listed, unlist, listings}
use Rattle.op_model.specs.Operations.{Words}
use Rattle.op_model.specs.Run.Rest.{IsAtRest}
use Rattle.op_model.specs.Run.Runs.{Past}
use Rattle.op_model.specs.Shares.{Charge, State, Trace, copy_of, room_of, share_at}
use Rattle.op_model.specs.Tables.Home.{lacks_link, on_get, on_getx, wants_victim}
use Rattle.op_model.specs.Tables.Processor.{serves}
use Rattle.op_model.proofs.Public.{eqb-self}
use Rattle.lane_bounds.proofs.Public.{after_row_of, asks_victim, row_at, taken_of}
use Rattle.rest_laws.proofs.Public.{sends-listed, sends_weight}
use Rattle.schedule_laws.proofs.Asked.{headers-kept, met, met-get, met-getx, only-request, owned, share-kept}
use Rattle.schedule_laws.proofs.Completes.{none-naks}
use Rattle.schedule_laws.proofs.Forwards.{round-forward, round-forwardx}
use Rattle.schedule_laws.proofs.Known.{Delivers, IsKnown, IsNoNak, IsUsual}
use Rattle.schedule_laws.proofs.Recalls.{header_at}
use Rattle.schedule_laws.proofs.Requests.{IsAnswered, IsForwarded, IsInvalidating, IsPassive, each-settles, get-row, getx-row}
use Rattle.schedule_laws.proofs.RestMoments.{idle-at, room-calm, room-free, unlisted-at}
use Rattle.schedule_laws.proofs.Rounds.{IsRound, round-wider}
use Rattle.schedule_laws.proofs.Settled.{AllSettle, grants, still}
use Rattle.schedule_laws.proofs.Settling.{grants_at, still-weight}
use Rattle.schedule_laws.proofs.Single.{OnlyOne, OnlySent, one-front, one-sent, one-taken, only-sent}
use Rattle.schedule_laws.proofs.Stages.{IsStage, grants-home, round-sent, share-away, stage-passive}
use Rattle.schedule_laws.proofs.Takes.{round-taken}
use Rattle.schedule_laws.proofs.Under.{AllSent}

-- an Inv to each listed node, none of them the home, is for all but one node
pub listed-weight : (nodes home : ℕ) (list : Nodes) → home < nodes → listed list home ≡ false → sends_weight still nodes (to_listed list) + 2 ≤ 2 * nodes
listed-weight nodes home list within off = sends-listed still nodes list home within off

module _ (charge : Charge) (trace : Trace) (usual : IsUsual trace) (next : State → Option Event) (delivers : Delivers charge trace usual next)
    (first : Past) (known : IsKnown charge trace first) (rests : IsAtRest first.state) (p line : ℕ) (op : Op) (missed : serves op (copy_of (first.state.share p) line) ≡ false)
    (p_in : p < trace.sizes.nodes) (home_in : home_of trace.sizes line < trace.sizes.nodes) (apart : p ≢ home_of trace.sizes line)
    (outcome : Outcome) (content : Content) (sends : outcome.sends ≡ (home_of trace.sizes line, content) ∷ [])
    (then : Past) (stage : IsStage charge trace usual next delivers p line (λ n. (first.state.share n).place) then) (is : then.state ≡ after_row_of trace.sizes p line outcome first.state) where
  abbrev sizes : Sizes
  sizes = trace.sizes

  abbrev home : ℕ
  home = home_of sizes line

  abbrev places : ℕ → ℕ
  places n = (first.state.share n).place

  abbrev share : LineShare
  share = share_at sizes then.state home line

  abbrev room : Room
  room = room_of charge sizes (then.state.share home)

  abbrev Round : Past → ℕ → Type 0
  Round past most = IsRound charge trace usual next delivers p places past most 0

  home-apart : home ≢ p
  home-apart = λ e. apart (sym e)

  kept-home : then.state.share home ≡ first.state.share home
  kept-home = share-kept charge trace usual next delivers first known rests p line op missed apart outcome content sends then stage.known is home home-apart

  kept-header : header_at sizes then.state line ≡ header_at sizes first.state line
  kept-header = headers-kept charge trace usual next delivers first known rests p line op missed apart outcome content sends then stage.known is line

  pub only : OnlyOne p home (message line content) then.state.lane
  only = only-request charge trace usual next delivers first known rests p line op missed apart outcome content sends then stage.known is

  pub idle : is_pending share.header ≡ false
  idle = ap is_pending kept-header ∙ idle-at charge trace usual first known rests line

  pub free : room.full ≡ false
  free = ap (λ s. (room_of charge sizes s).full) kept-home ∙ room-free charge trace usual first known rests home

  pub calm : room.link_pending ≡ false
  calm = ap (λ s. (room_of charge sizes s).link_pending) kept-home ∙ room-calm charge trace usual first known rests home

  pub unlisted : listed share.header.list home ≡ false
  unlisted = ap (λ (h : Header). listed h.list home) kept-header ∙ unlisted-at charge trace usual first known rests line

  -- the home's row, after which the rest settles
  module _ (m : Msg) (single : OnlyOne p home m then.state.lane) (row : Outcome) where
    abbrev After : Past → Type 0
    After last = last.state ≡ after_row_of sizes home line row (record then.state { lane = taken_of p home (msg_class m) [] then.state.lane })

    passed : IsPassive share row → (last : Past) → IsKnown charge trace last → After last → IsStage charge trace usual next delivers p line places last
    passed passive last known_last at = stage-passive charge trace usual next delivers p line places then.state _ home row last known_last at passive stage.tracked stage.granted

    -- it is answered
    answered : (answer : Words → Content) → ((words : Words) → AllSettle ((p, answer words) ∷ [])) → ((words : Words) → still (answer words) ≡ 1) → IsAnswered answer p share row → (last : Past) → IsKnown charge trace last → After last → Round last 1
    answered answer settle one it last known_last at =
        let weight = still-weight sizes.nodes ((p, answer it.0) ∷ []) in
        let light = one it.0 in
        let w : sends_weight still sizes.nodes row.sends ≡ sends_weight still sizes.nodes ((p, answer it.0) ∷ []) = ap (sends_weight still sizes.nodes) it.1 in
        let g = grants-home charge trace usual next delivers p line places then.state _ home row last known_last at refl in
        let zero = it.2 in
        round-sent charge trace usual next delivers p line places then.state _ home row last known_last at 1 (one-taken p home m then.state.lane single) (passed it.3 last known_last at) (subst AllSettle (sym it.1) (settle it.0)) (omega arith)

    -- the other copies are called in
    invalidating : IsInvalidating p share row → (last : Past) → IsKnown charge trace last → After last → Round last (2 * sizes.nodes)
    invalidating it last known_last at =
        let off : listed (unlist share.header.list p) home ≡ false = gone in
        let weight = listed-weight sizes.nodes home (unlist share.header.list p) home_in off in
        let w : sends_weight still sizes.nodes row.sends ≡ sends_weight still sizes.nodes (to_listed (unlist share.header.list p)) = ap (sends_weight still sizes.nodes) it.0 in
        let g = grants-home charge trace usual next delivers p line places then.state _ home row last known_last at refl in
        let one : grants row.share.header.wait ≡ 1 = ap grants it.1 in
        round-sent charge trace usual next delivers p line places then.state _ home row last known_last at (2 * sizes.nodes) (one-taken p home m then.state.lane single) (passed it.2 last known_last at)
        (subst AllSettle (sym it.0) (each-settles _)) (omega arith)
      where
        gone : listed (unlist share.header.list p) home ≡ false
        gone = let u = unlisted in grind (arith, nat_tests, listings)

    -- it is forwarded to the owner
    forwarded : (forward : Content) → IsForwarded forward share row →
        ((last : Past) (stage_last : IsStage charge trace usual next delivers p line places last) (o : ℕ) → o < sizes.nodes → o ≢ home → is_exclusive (copy_of (last.state.share o) line) ≡ true → grants_at sizes last.state line ≡ 0 →
        OnlyOne home o (message line forward) last.state.lane → Round last 3) →
        (last : Past) → IsKnown charge trace last → After last → Round last 3
    forwarded forward it later last known_last at =
        let own = owned charge trace usual next delivers first known rests p line op missed apart outcome content sends then stage.known is it.0 it.1 in
        let empty = one-taken p home m then.state.lane single in
        let lanes : OnlySent home line row.sends last.state.lane = subst (λ (s : State). OnlySent home line row.sends s.lane) (sym at) (only-sent home line row.sends _ empty) in
        let one : OnlySent home line ((own.0, forward) ∷ []) last.state.lane = subst (λ l. OnlySent home line l last.state.lane) (it.2 ∙ ap (λ n. (n, forward) ∷ []) own.1) lanes in
        later last (passed it.4 last known_last at) own.0 own.4 own.2
        (ap (λ s. is_exclusive (copy_of s line)) (share-away charge trace usual next delivers p line places then.state _ home row last known_last at own.0 own.2) ∙ own.5)
        (grants-home charge trace usual next delivers p line places then.state _ home row last known_last at refl ∙ it.3)
        (one-sent home line own.0 forward last.state.lane one)

pub two-nodes : (p home nodes : ℕ) → p < nodes → home < nodes → p ≢ home → 4 ≤ 2 * nodes
two-nodes p home nodes x y apart = grind (arith, nat_tests)

module _ (charge : Charge) (trace : Trace) (usual : IsUsual trace) (next : State → Option Event) (delivers : Delivers charge trace usual next)
    (first : Past) (known : IsKnown charge trace first) (rests : IsAtRest first.state) (p line : ℕ) (op : Op) (missed : serves op (copy_of (first.state.share p) line) ≡ false)
    (p_in : p < trace.sizes.nodes) (home_in : home_of trace.sizes line < trace.sizes.nodes) (apart : p ≢ home_of trace.sizes line)
    (outcome : Outcome) (then : Past) (stage : IsStage charge trace usual next delivers p line (λ n. (first.state.share n).place) then) (is : then.state ≡ after_row_of trace.sizes p line outcome first.state) where
  abbrev home_at : ℕ
  home_at = home_of trace.sizes line

  abbrev place_of : ℕ → ℕ
  place_of n = (first.state.share n).place

  abbrev home_share : LineShare
  home_share = share_at trace.sizes then.state home_at line

  abbrev home_room : Room
  home_room = room_of charge trace.sizes (then.state.share home_at)

  abbrev RoundOf : Past → ℕ → Type 0
  RoundOf past most = IsRound charge trace usual next delivers p place_of past most 0

  module _ (sends : outcome.sends ≡ (home_at, Get) ∷ []) where
    one-get : OnlyOne p home_at (message line Get) then.state.lane
    one-get = only charge trace usual next delivers first known rests p line op missed p_in home_in apart outcome Get sends then stage is

    get-is : row_at charge trace.sizes then.state p home_at line Get ≡ on_get home_room p home_share
    get-is = met-get home_at home_at p (is_empty (copy_of (then.state.share home_at) line)) home_room home_share
        (met charge trace usual next delivers first known rests p line op missed apart outcome Get sends then stage.known is (one-front p home_at (message line Get) then.state.lane one-get) refl refl)

    -- whether a line is called in
    pub asks-is : asks_victim charge trace.sizes then.state p home_at line Get ≡ lacks_link home_room p home_share.header
    unfolding wants_victim
    asks-is =
        let a = idle charge trace usual next delivers first known rests p line op missed p_in home_in apart outcome Get sends then stage is in
        let b = calm charge trace usual next delivers first known rests p line op missed p_in home_in apart outcome Get sends then stage is in
        let c = free charge trace usual next delivers first known rests p line op missed p_in home_in apart outcome Get sends then stage is in
        together (home_at == home_at) (is_pending home_share.header) (lacks_link home_room p home_share.header) home_room.link_pending home_room.full (eqb-self home_at) a b c
      where
        together : (h i l b c : Bool) → h ≡ true → i ≡ false → b ≡ false → c ≡ false → (true && h && (not i && l && not b && not c)) ≡ l
        together h i l b c x y z w = grind arith

    -- where none is, the rest is a round of four events
    pub round-get : lacks_link home_room p home_share.header ≡ false → RoundOf then 4
    round-get has =
        let row : Outcome = row_at charge trace.sizes then.state p home_at line Get in
        let a = idle charge trace usual next delivers first known rests p line op missed p_in home_in apart outcome Get sends then stage is in
        let c = free charge trace usual next delivers first known rests p line op missed p_in home_in apart outcome Get sends then stage is in
        go (subst (λ o. IsAnswered Put p home_share o ⊎ IsForwarded (FwdGet p) home_share o) (sym get-is) (get-row home_room p home_share a has c))
      where
        go : IsAnswered Put p home_share (row_at charge trace.sizes then.state p home_at line Get) ⊎ IsForwarded (FwdGet p) home_share (row_at charge trace.sizes then.state p home_at line Get) → RoundOf then 4
        go (inl it) =
            round-taken charge trace usual next delivers then stage.known p home_at (message line Get) one-get p_in home_in p place_of 3 0 (asks-is ∙ has) (subst (λ l. AllSent IsNoNak l) (sym it.1) (refl, tt))
            (λ last known_last at. round-wider charge trace usual next delivers p place_of last 1 3 0 (omega arith)
            (answered charge trace usual next delivers first known rests p line op missed p_in home_in apart outcome Get sends then stage is (message line Get) one-get (row_at charge trace.sizes then.state p home_at line Get) Put (λ w. (refl, refl, tt)) (λ w. refl) it last known_last at))
        go (inr it) =
            round-taken charge trace usual next delivers then stage.known p home_at (message line Get) one-get p_in home_in p place_of 3 0 (asks-is ∙ has) (subst (λ l. AllSent IsNoNak l) (sym it.2) (refl, tt))
            (λ last known_last at. forwarded charge trace usual next delivers first known rests p line op missed p_in home_in apart outcome Get sends then stage is (message line Get) one-get (row_at charge trace.sizes then.state p home_at line Get) (FwdGet p) it
            (λ end stage_end o o_in far has_copy waits single. round-forward charge trace usual next delivers p line place_of end stage_end o home_in o_in far has_copy waits p single) last known_last at)

  module _ (sends : outcome.sends ≡ (home_at, GetX) ∷ []) where
    one-getx : OnlyOne p home_at (message line GetX) then.state.lane
    one-getx = only charge trace usual next delivers first known rests p line op missed p_in home_in apart outcome GetX sends then stage is

    getx-is : row_at charge trace.sizes then.state p home_at line GetX ≡ on_getx home_room p home_share
    getx-is = met-getx home_at home_at p (is_empty (copy_of (then.state.share home_at) line)) home_room home_share
        (met charge trace usual next delivers first known rests p line op missed apart outcome GetX sends then stage.known is (one-front p home_at (message line GetX) then.state.lane one-getx) refl refl)

    -- a GetX calls no line in for its links, and is never refused here
    pub round-getx : RoundOf then (suc (2 * trace.sizes.nodes))
    round-getx =
        let a = idle charge trace usual next delivers first known rests p line op missed p_in home_in apart outcome GetX sends then stage is in
        let c = free charge trace usual next delivers first known rests p line op missed p_in home_in apart outcome GetX sends then stage is in
        go (subst (λ o. IsAnswered PutX p home_share o ⊎ IsForwarded (FwdGetX p) home_share o ⊎ IsInvalidating p home_share o) (sym getx-is) (getx-row home_room p home_share a c))
      where
        more : 4 ≤ 2 * trace.sizes.nodes
        more = two-nodes p home_at trace.sizes.nodes p_in home_in apart

        go : IsAnswered PutX p home_share (row_at charge trace.sizes then.state p home_at line GetX) ⊎ IsForwarded (FwdGetX p) home_share (row_at charge trace.sizes then.state p home_at line GetX) ⊎ IsInvalidating p home_share (row_at charge trace.sizes then.state p home_at line GetX) →
            RoundOf then (suc (2 * trace.sizes.nodes))
        go (inl it) =
            round-taken charge trace usual next delivers then stage.known p home_at (message line GetX) one-getx p_in home_in p place_of (2 * trace.sizes.nodes) 0 refl (subst (λ l. AllSent IsNoNak l) (sym it.1) (refl, tt))
            (λ last known_last at. round-wider charge trace usual next delivers p place_of last 1 (2 * trace.sizes.nodes) 0 (let m = more in omega arith)
            (answered charge trace usual next delivers first known rests p line op missed p_in home_in apart outcome GetX sends then stage is (message line GetX) one-getx (row_at charge trace.sizes then.state p home_at line GetX) PutX (λ w. (refl, refl, tt)) (λ w. refl) it last known_last at))
        go (inr (inl it)) =
            round-taken charge trace usual next delivers then stage.known p home_at (message line GetX) one-getx p_in home_in p place_of (2 * trace.sizes.nodes) 0 refl (subst (λ l. AllSent IsNoNak l) (sym it.2) (refl, tt))
            (λ last known_last at. round-wider charge trace usual next delivers p place_of last 3 (2 * trace.sizes.nodes) 0 (let m = more in omega arith)
            (forwarded charge trace usual next delivers first known rests p line op missed p_in home_in apart outcome GetX sends then stage is (message line GetX) one-getx (row_at charge trace.sizes then.state p home_at line GetX) (FwdGetX p) it
            (λ end stage_end o o_in far has_copy waits single. round-forwardx charge trace usual next delivers p line place_of end stage_end o home_in o_in far has_copy waits p single) last known_last at))
        go (inr (inr it)) =
            round-taken charge trace usual next delivers then stage.known p home_at (message line GetX) one-getx p_in home_in p place_of (2 * trace.sizes.nodes) 0 refl (subst (λ l. AllSent IsNoNak l) (sym it.0) (none-naks _ (each-settles _)))
            (λ last known_last at. invalidating charge trace usual next delivers first known rests p line op missed p_in home_in apart outcome GetX sends then stage is (message line GetX) one-getx (row_at charge trace.sizes then.state p home_at line GetX) it last known_last at)
