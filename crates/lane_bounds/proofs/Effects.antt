-- What an event does: a row without a message, a message that is taken, or a message that is taken with a line that is called in.
-- A node's own share and the share with the home's header give the same rows, so a law of the machine has one case for each, with
-- no test and no error left in it.
use Rattle.std.proofs.Common.{◌≡◌, ℕ, ◌<◌, Bool, true, false, cond, ◌==◌, ◌&&◌, not, List, [], ◌∷◌, ◌++◌, append-nil, drop, refl, arith, ap, sym, ◌∙◌, subst, Option, Some, None, Result, Ok, Err}
use Rattle.std.proofs.lemmas.Bool.Decides.{nat_tests}
use Rattle.line_map.specs.Sizes.{Sizes, home_of, line_of}
use Rattle.op_model.specs.declared.events.Cause.{Cause}
use Rattle.op_model.specs.declared.events.Cause.TheVariants.{LaneEmpty, LaneGate}
use Rattle.op_model.specs.declared.events.Class.{Class}
use Rattle.op_model.specs.declared.events.Class.TheVariants.{Request}
use Rattle.op_model.specs.declared.events.Event.{Event}
use Rattle.op_model.specs.declared.events.Event.TheVariants.{Evict, Hit, Issue, Reclaim, Take}
use Rattle.op_model.specs.declared.events.EvictKind.{EvictKind}
use Rattle.op_model.specs.declared.messages.Msg.{Msg}
use Rattle.op_model.specs.declared.operations.Op.{Op}
use Rattle.op_model.specs.Events.Node as node_sees
use Rattle.op_model.specs.Events.Node.{NodeOutcome, and_call, bind, by_row, departs, evict_line, fits_victim, hit_next, is_get, is_outstanding, issue_next, local, map_ok, meets_row, messages, take_from, with_next, with_victim}
use Rattle.op_model.specs.Events.Step.{Done, Off, act, after, effect, has_room, none_off, one_off, take_front}
use Rattle.op_model.specs.Lines.{Header, Outcome, is_empty, is_pending, to_each}
use Rattle.op_model.specs.Messages.{Content, FAck, FwdGet, FwdGetX, Get, GetX, Inv, InvAck, Nak, Nakc, Put, PutX, Rpl, ShWb, Wb, msg_content, msg_line}
use Rattle.op_model.specs.Run.Runs.{Past, past_after}
use Rattle.op_model.specs.Shares.{Charge, Lanes, Share, State, Trace, conflicts, copy_of, header_of, is_set_empty, line_share, program, room_of, share_at}
use Rattle.op_model.specs.Tables.Home.{wants_victim}
use Rattle.op_model.specs.Tables.Processor.{begin_op, call_in, evict, hit, holds_link, reclaim, serves}
use Rattle.op_model.specs.Tables.Remote.{asks_well, meets, on_message}
use Rattle.op_model.proofs.Public.{three_parts}
use Rattle.line_invariant.proofs.Public.{away-begin, away-evict, if-either}
use Rattle.one_history.specs.Sound.{IsNextOp, IsSound}
use Rattle.one_history.proofs.Public.{IsOwn, at-home, call-past, hit-away, message-own, none-dropped, own-ok}
use Rattle.one_history.proofs.Public.{own-past, own-row, sound-meets}
use Rattle.lane_bounds.proofs.Acts.{Act, after_act, after_row_of, just, next_op, one-taken, row-same, taken_of}

-- the row of a message that says this of a line, by the home's header
abbrev pub row_at : Charge → Sizes → State → (src dst line : ℕ) → Content → Outcome
row_at charge sizes state src dst line content =
    on_message dst (home_of sizes line) src (is_empty (copy_of (state.share dst) line)) (room_of charge sizes (state.share dst)) content (share_at sizes state dst line)

-- a message is taken
abbrev pub taking : Charge → Sizes → State → (src dst : ℕ) → Class → Msg → List Msg → Act
taking charge sizes state src dst class m rest =
    record { node = dst; line = msg_line m; outcome = row_at charge sizes state src dst (msg_line m) (msg_content m); called = None; lane = taken_of src dst class rest state.lane }

-- whether a message asks for a line to be called in, by the home's header
abbrev pub asks_victim : Charge → Sizes → State → (src dst line : ℕ) → Content → Bool
asks_victim charge sizes state src dst line content = is_get content && (dst == home_of sizes line) && wants_victim (room_of charge sizes (state.share dst)) src (share_at sizes state dst line).header

-- whether this line may be called in, by the home's header
abbrev pub is_fit : Charge → Sizes → State → (dst line : ℕ) → Bool
is_fit charge sizes state dst line =
    let header = (share_at sizes state dst line).header in
    (home_of sizes line == dst) && holds_link (room_of charge sizes (state.share dst)) header && not (is_pending header)

-- the lane to the home has no room for the message of this eviction
abbrev pub is_gated : Sizes → State → (node home : ℕ) → EvictKind → Bool
is_gated sizes state node home kind = departs (node == home) kind && not (has_room sizes (state.lane node home Request))

-- something holds of what each message does that is taken
pub record IsEachTake (charge : Charge) (sizes : Sizes) (state : State) (src dst : ℕ) (class : Class) (P : Act → Type 0) : Type 0 where
  pub takes : (m : Msg) (rest : List Msg) → state.lane src dst class ≡ m ∷ rest → asks_victim charge sizes state src dst (msg_line m) (msg_content m) ≡ false → P (taking charge sizes state src dst class m rest)
  pub calls : (m : Msg) (rest : List Msg) (g : ℕ) → state.lane src dst class ≡ m ∷ rest → asks_victim charge sizes state src dst (msg_line m) (msg_content m) ≡ true → is_fit charge sizes state dst g ≡ true →
      P (record (taking charge sizes state src dst class m rest) { called = Some g })

-- something holds of what each event does
pub record IsEach (charge : Charge) (trace : Trace) (state : State) (P : Act → Type 0) : Type 0 where
  pub hits : (node line : ℕ) (op : Op) → IsNextOp trace node (state.share node).place line op → serves op (copy_of (state.share node) line) ≡ true → P (just state node line (hit op (share_at trace.sizes state node line)))
  pub begins : (node line : ℕ) (op : Op) (o : Outcome) → IsNextOp trace node (state.share node).place line op → begin_op node (home_of trace.sizes line) (room_of charge trace.sizes (state.share node)) op (share_at trace.sizes state node line) ≡ Ok o → P (just state node line o)
  pub leaves : (node line : ℕ) (kind : EvictKind) (o : Outcome) → evict node (home_of trace.sizes line) kind (share_at trace.sizes state node line) ≡ Ok o → is_gated trace.sizes state node (home_of trace.sizes line) kind ≡ false → P (just state node line o)
  pub reclaims : (line : ℕ) (o : Outcome) → reclaim (room_of charge trace.sizes (state.share (home_of trace.sizes line))) (share_at trace.sizes state (home_of trace.sizes line) line) ≡ Ok o → P (just state (home_of trace.sizes line) line o)
  pub messages : (src dst : ℕ) (class : Class) → IsEachTake charge trace.sizes state src dst class P

-- whether a test finds a message that is sent
abbrev pub finds : (Content → Bool) → List (ℕ × Msg) → Bool
finds test [] = false
finds test (send ∷ sends) = cond (test (msg_content send.1)) true (finds test sends)

-- an event does this act: the state after it, its node, and what it sends, but for the Invs of a line that is called in
pub record IsActOf (sizes : Sizes) (state : State) (done : Done) (made : Act) : Type 0 where
  pub same : after state done ≡ after_act sizes made state
  pub node : done.node ≡ made.node
  pub sends : (g : List (ℕ × Msg)) × (done.out.sends ≡ messages made.line made.outcome.sends ++ g) × ((test : Content → Bool) → test Inv ≡ false → finds test g ≡ false)

finds-invs : (line : ℕ) (nodes : List ℕ) (test : Content → Bool) → test Inv ≡ false → finds test (messages line (to_each nodes)) ≡ false
finds-invs line [] test e = refl
finds-invs line (n ∷ ns) test e = rw e (finds-invs line ns test e)

-- by its own share a node asks for a victim where it does by the home's
module _ (charge : Charge) (trace : Trace) (past : Past) (sound : IsSound trace past) (src dst : ℕ) (class : Class) (m : Msg) (rest : List Msg) (front : past.state.lane src dst class ≡ m ∷ rest) where
  abbrev taker : Share
  taker = past.state.share dst

  asks-by : (line : ℕ) (content : Content) → meets dst (home_of trace.sizes line) src (is_set_empty trace.sizes taker line) content (line_share trace.sizes taker line) ≡ true →
      (meets dst (home_of trace.sizes line) src (is_set_empty trace.sizes taker line) content (line_share trace.sizes taker line) && is_get content && wants_victim (room_of charge trace.sizes taker) src (line_share trace.sizes taker line).header) ≡ asks_victim charge trace.sizes past.state src dst line content
  unfolding meets
  asks-by line = go
    where
      at : (c : Bool) → (dst == home_of trace.sizes line) ≡ c → (c ≡ true) → (true && wants_victim (room_of charge trace.sizes taker) src (line_share trace.sizes taker line).header) ≡ ((dst == home_of trace.sizes line) && wants_victim (room_of charge trace.sizes taker) src (share_at trace.sizes past.state dst line).header)
      at true e h = rw e (ap (λ s. wants_victim (room_of charge trace.sizes taker) src s.header) (at-home trace.sizes past.state dst line e))
      at false e h = cc

      none : (b : Bool) (c : Bool) → (b && false && c) ≡ false
      none true c = refl
      none false c = refl

      go : (content : Content) → meets dst (home_of trace.sizes line) src (is_set_empty trace.sizes taker line) content (line_share trace.sizes taker line) ≡ true →
          (meets dst (home_of trace.sizes line) src (is_set_empty trace.sizes taker line) content (line_share trace.sizes taker line) && is_get content && wants_victim (room_of charge trace.sizes taker) src (line_share trace.sizes taker line).header) ≡ asks_victim charge trace.sizes past.state src dst line content
      go Get met = rw met (at (dst == home_of trace.sizes line) refl (three_parts (dst == home_of trace.sizes line) (not (src == home_of trace.sizes line)) (asks_well src (line_share trace.sizes taker line).header) met).0)
      go GetX met = none _ _
      go (FwdGet r) met = none _ _
      go (FwdGetX r) met = none _ _
      go Inv met = none _ _
      go (Wb words) met = none _ _
      go Rpl met = none _ _
      go (Put words) met = none _ _
      go (PutX words) met = none _ _
      go (Nak cause) met = none _ _
      go InvAck met = none _ _
      go (ShWb words) met = none _ _
      go FAck met = none _ _
      go Nakc met = none _ _

  pub asks-same : node_sees.asks_victim charge trace.sizes dst taker src m ≡ asks_victim charge trace.sizes past.state src dst (msg_line m) (msg_content m)
  unfolding meets_row
  asks-same = asks-by (msg_line m) (msg_content m) (sound-meets charge trace past sound src dst class m rest front)

-- a line may be called in by the home's header just where it may be by the node's own
module _ (charge : Charge) (sizes : Sizes) (state : State) (dst g : ℕ) where
  abbrev fits_by : Header → Bool
  fits_by header = (home_of sizes g == dst) && holds_link (room_of charge sizes (state.share dst)) header && not (is_pending header)

  home-is : (home_of sizes g == dst) ≡ true → (dst == home_of sizes g) ≡ true
  home-is e = grind (arith, nat_tests)

  pub fit-back : is_fit charge sizes state dst g ≡ true → fits_victim charge sizes dst (state.share dst) g ≡ true
  fit-back fit = subst (λ s. fits_by s.header ≡ true) (sym (at-home sizes state dst g (home-is (three_parts (home_of sizes g == dst) _ _ fit).0))) fit

  pub fit-same : fits_victim charge sizes dst (state.share dst) g ≡ true → is_fit charge sizes state dst g ≡ true
  fit-same fit = subst (λ s. fits_by s.header ≡ true) (at-home sizes state dst g (home-is (three_parts (home_of sizes g == dst) _ _ fit).0)) fit

module _ (charge : Charge) (trace : Trace) (positive : 0 < trace.sizes.words) (past : Past) (sound : IsSound trace past) (P : Act → Type 0) where
  abbrev sizes : Sizes
  sizes = trace.sizes

  abbrev state : State
  state = past.state

  abbrev share : ℕ → Share
  share node = state.share node

  abbrev pub Met : Done → Type 0
  Met d = (made : Act) × P made × IsActOf sizes state d made

  abbrev Each : Result Done Cause → Type 0
  Each r = (d : Done) → r ≡ Ok d → Met d

  abbrev EachOut : ℕ → Off → Result NodeOutcome Cause → Type 0
  EachOut node off r = (o : NodeOutcome) → r ≡ Ok o → Met (record { node = node; out = o; off = off })

  out-error : (node : ℕ) (off : Off) (c : Cause) → EachOut node off (Err c)
  out-error node off c o e = absurd (let no : ◌≡◌ {A = Result NodeOutcome Cause} (Err c) (Ok o) = e in cc)

  out-ok : (node : ℕ) (off : Off) (x : NodeOutcome) → Met (record { node = node; out = x; off = off }) → EachOut node off (Ok x)
  out-ok node off x m o e = let is : x ≡ o = cc in subst (λ y. Met (record { node = node; out = y; off = off })) is m

  acts : (node : ℕ) (off : Off) (r : Result NodeOutcome Cause) → EachOut node off r → Each (act node off r)
  acts node off (Ok o) keeps d e = let is : ◌≡◌ {A = Done} (record { node = node; out = o; off = off }) d = cc in subst Met is (keeps o refl)
  acts node off (Err c) keeps d e = absurd (let n : ◌≡◌ {A = Result Done Cause} (Err c) (Ok d) = e in cc)

  -- a row by the node's own share
  sends-own : (node line : ℕ) (own o : Outcome) → IsOwn sizes node line own o → messages line own.sends ≡ messages line o.sends ++ []
  sends-own node line own o is = ap (λ x. messages line x.sends) is.1 ∙ sym (append-nil _)

  row-state : (node line : ℕ) (own o : Outcome) (off : Off) (lane : Lanes) → IsOwn sizes node line own o → ((a b : ℕ) (class : Class) → drop (off a b class) (state.lane a b class) ≡ lane a b class) →
      after state (record { node = node; out = by_row sizes node (share node) line own; off = off }) ≡ after_row_of sizes node line o (record state { lane = lane })
  row-state node line own o off lane is dropped = ap (λ p. p.state) (own-past trace past node line own o off lane is dropped) ∙ row-same sizes node line o (record state { lane = lane })

  pub row-just : (node line : ℕ) (own o : Outcome) → IsOwn sizes node line own o → P (just state node line o) → Met (record { node = node; out = by_row sizes node (share node) line own; off = none_off })
  unfolding after_act
  row-just node line own o is p = (just state node line o, p, record { same = row-state node line own o none_off state.lane is (none-dropped state); node = refl; sends = ([], sends-own node line own o is, λ test e. refl) })

  module _ (src dst : ℕ) (class : Class) (each : IsEachTake charge trace.sizes state src dst class P) where
    module _ (m : Msg) (rest : List Msg) (front : state.lane src dst class ≡ m ∷ rest) where
      abbrev own : Outcome
      own = node_sees.taking charge sizes dst (share dst) src m

      abbrev out : NodeOutcome
      out = by_row sizes dst (share dst) (msg_line m) own

      abbrev outcome : Outcome
      outcome = row_at charge sizes state src dst (msg_line m) (msg_content m)

      abbrev off : Off
      off = one_off src dst class

      abbrev asks : Bool
      asks = asks_victim charge sizes state src dst (msg_line m) (msg_content m)

      own-is : IsOwn sizes dst (msg_line m) own outcome
      own-is = message-own charge trace positive past sound src dst (msg_line m) (msg_content m)

      first-state : after state (record { node = dst; out = out; off = off }) ≡ after_row_of sizes dst (msg_line m) outcome (record state { lane = taken_of src dst class rest state.lane })
      first-state = row-state dst (msg_line m) own outcome off (taken_of src dst class rest state.lane) own-is (one-taken state src dst class m rest front)

      takes : asks ≡ false → Met (record { node = dst; out = out; off = off })
      unfolding after_act
      takes not = (taking charge sizes state src dst class m rest, each.takes m rest front not, record { same = first-state; node = refl; sends = ([], sends-own dst (msg_line m) own outcome own-is, λ test e. refl) })

      calls : (g : ℕ) → asks ≡ true → fits_victim charge sizes dst (share dst) g ≡ true → Met (record { node = dst; out = and_call sizes dst g out; off = off })
      unfolding after_act
      calls g asked fit = (
        record (taking charge sizes state src dst class m rest) { called = Some g },
        each.calls m rest g front asked (fit-same charge sizes state dst g fit),
        record {
          same = ap (λ p. p.state) (call-past trace past dst g out off) ∙ second (past_after trace.sizes past (record { node = dst; out = out; off = off })) ∙ ap (λ s. after_row_of sizes dst g (call_in (share_at sizes s dst g)) s) first-state;
          node = refl;
          sends = (messages g (call_in (line_share sizes out.share g)).sends, ap (λ l. l ++ messages g (call_in (line_share sizes out.share g)).sends) (ap (λ x. messages (msg_line m) x.sends) own-is.1), λ test e. finds-invs g _ test e);
        },
      )
        where
          same : dst ≡ home_of sizes g
          same = home-is (three_parts (home_of sizes g == dst) _ _ fit).0
            where
              home-is : (home_of sizes g == dst) ≡ true → dst ≡ home_of sizes g
              home-is e = grind (arith, nat_tests)

          at-own : (next : Past) → IsOwn sizes dst g (call_in (line_share sizes (next.state.share dst) g)) (call_in (share_at sizes next.state dst g))
          at-own next = ((call_in (share_at sizes next.state dst g)).share.header, ap (λ k. call_in (record (share_at sizes next.state dst g) { header = header_of sizes (next.state.share k) g })) same, λ t. refl)

          second : (next : Past) → (past_after trace.sizes next (record { node = dst; out = by_row sizes dst (next.state.share dst) g (call_in (line_share sizes (next.state.share dst) g)); off = none_off })).state ≡ after_row_of sizes dst g (call_in (share_at sizes next.state dst g)) next.state
          second next = ap (λ p. p.state) (own-past trace next dst g _ _ none_off next.state.lane (at-own next) (none-dropped next.state)) ∙ row-same sizes dst g (call_in (share_at sizes next.state dst g)) next.state

      each-message : (victim : Option ℕ) → EachOut dst (one_off src dst class) (take_from charge sizes dst (share dst) src m victim)
      each-message victim = with (node_sees.asks_victim charge sizes dst (share dst) src m) refl victim
        where
          asked : (b : Bool) → node_sees.asks_victim charge sizes dst (share dst) src m ≡ b → asks ≡ b
          asked b e = sym (asks-same charge trace past sound src dst class m rest front) ∙ e

          with : (b : Bool) → node_sees.asks_victim charge sizes dst (share dst) src m ≡ b → (victim : Option ℕ) → EachOut dst off (with_victim charge sizes dst (share dst) b victim out)
          with true e None = out-error dst off _
          with false e None = out-ok dst off out (takes (asked false e))
          with false e (Some g) = out-error dst off _
          with true e (Some g) = if-either (EachOut dst off) (fits_victim charge sizes dst (share dst) g) _ _ (λ fit. out-ok dst off (and_call sizes dst g out) (calls g (asked true e) fit)) (λ _. out-error dst off _)

    each-front : (victim : Option ℕ) (ms : List Msg) → state.lane src dst class ≡ ms → Each (take_front charge sizes (program trace) state src dst class victim ms)
    unfolding local
    each-front victim [] front = λ d e. absurd (let n : ◌≡◌ {A = Result Done Cause} (Err LaneEmpty) (Ok d) = e in cc)
    each-front victim (m ∷ rest) front = acts dst (one_off src dst class) (take_from charge sizes dst (share dst) src m victim) (each-message m rest front victim)

    pub each-taken : (victim : Option ℕ) → Each (effect charge sizes (program trace) state (Take src dst class victim))
    each-taken victim = each-front victim (state.lane src dst class) refl

  module _ (each : IsEach charge trace state P) where
    each-next : (node : ℕ) (f : Op → Result NodeOutcome Cause) → ((next : Op) → next_op trace state node ≡ Some next → EachOut node none_off (f next)) → EachOut node none_off (with_next (share node) (next_op trace state node) f)
    each-next node f it = go (next_op trace state node) refl
      where
        go : (o : Option Op) → next_op trace state node ≡ o → EachOut node none_off (with_next (share node) o f)
        go None e = out-error node none_off _
        go (Some next) e = if-either (EachOut node none_off) (is_outstanding (share node).want) _ _ (λ _. out-error node none_off _) (λ _. it next e)

    each-hit : (node : ℕ) (next : Op) → next_op trace state node ≡ Some next → EachOut node none_off (hit_next sizes node (share node) next)
    each-hit node next is = if-either (EachOut node none_off) (serves next (copy_of (share node) (line_of sizes next.word))) _ _
        (λ serve. out-ok node none_off _ (row-just node (line_of sizes next.word) _ _ (own-row sizes state node (line_of sizes next.word) (hit next) (λ apart s h. hit-away next s h))
        (each.hits node (line_of sizes next.word) next (is, refl) serve))) (λ _. out-error node none_off _)

    each-issue : (node : ℕ) (next : Op) → next_op trace state node ≡ Some next → EachOut node none_off (issue_next charge sizes node (share node) next)
    each-issue node next is =
        if-either (EachOut node none_off) (serves next (copy_of (share node) (line_of sizes next.word))) _ _ (λ _. out-error node none_off _) (λ _.
        (if-either (EachOut node none_off) (conflicts sizes (share node) (line_of sizes next.word)) _ _ (λ _. out-error node none_off _)
        (λ _. begun (line_of sizes next.word) next (is, refl) _ refl)))
      where
        begun : (line : ℕ) (op : Op) → IsNextOp trace node (share node).place line op →
            (r : Result Outcome Cause) → begin_op node (home_of sizes line) (room_of charge sizes (share node)) op (line_share sizes (share node) line) ≡ r → EachOut node none_off (map_ok (by_row sizes node (share node) line) r)
        begun line op is (Err c) e = out-error node none_off c
        begun line op is (Ok o) e =
            let same = own-ok sizes state node line (begin_op node (home_of sizes line) (room_of charge sizes (share node)) op) (λ apart s h. away-begin node (home_of sizes line) apart s h (room_of charge sizes (share node)) op) o e in
            out-ok node none_off _ (row-just node line o same.0 same.2 (each.begins node line op same.0 is same.1))

    each-evict : (node line : ℕ) (kind : EvictKind) → EachOut node none_off (evict_line sizes node (share node) line kind (has_room sizes (state.lane node (home_of sizes line) Request)))
    each-evict node line kind = go (evict node (home_of sizes line) kind (line_share sizes (share node) line)) refl
      where
        go : (r : Result Outcome Cause) → evict node (home_of sizes line) kind (line_share sizes (share node) line) ≡ r →
            EachOut node none_off (bind r (λ outcome. cond (is_gated sizes state node (home_of sizes line) kind) (Err LaneGate) (Ok (by_row sizes node (share node) line outcome))))
        go (Err c) e = out-error node none_off c
        go (Ok o) e =
            let same = own-ok sizes state node line (evict node (home_of sizes line) kind) (λ apart s h. away-evict node (home_of sizes line) apart s h kind) o e in
            if-either (EachOut node none_off) (is_gated sizes state node (home_of sizes line) kind) _ _ (λ _. out-error node none_off _)
            (λ free. out-ok node none_off _ (row-just node line o same.0 same.2 (each.leaves node line kind same.0 same.1 free)))

    each-reclaim : (line : ℕ) → EachOut (home_of sizes line) none_off (map_ok (by_row sizes (home_of sizes line) (share (home_of sizes line)) line) (reclaim (room_of charge sizes (share (home_of sizes line))) (line_share sizes (share (home_of sizes line)) line)))
    each-reclaim line = go (reclaim (room_of charge sizes (share (home_of sizes line))) (line_share sizes (share (home_of sizes line)) line)) refl
      where
        go : (r : Result Outcome Cause) → reclaim (room_of charge sizes (share (home_of sizes line))) (line_share sizes (share (home_of sizes line)) line) ≡ r → EachOut (home_of sizes line) none_off (map_ok (by_row sizes (home_of sizes line) (share (home_of sizes line)) line) r)
        go (Err c) e = out-error (home_of sizes line) none_off c
        go (Ok o) e = out-ok (home_of sizes line) none_off _ (row-just (home_of sizes line) line o o (o.share.header, refl, λ t. refl) (each.reclaims line o e))

    pub each-event : (event : Event) → Each (effect charge sizes (program trace) state event)
    unfolding local
    each-event (Hit node) = acts node none_off _ (each-next node (hit_next sizes node (share node)) (each-hit node))
    each-event (Issue node) = acts node none_off _ (each-next node (issue_next charge sizes node (share node)) (each-issue node))
    each-event (Evict node line kind) = acts node none_off _ (each-evict node line kind)
    each-event (Take src dst class victim) = each-taken src dst class (each.messages src dst class) victim
    each-event (Reclaim line) = acts (home_of sizes line) none_off _ (each-reclaim line)
