-- Each event keeps what is bounded, case by case: its row was allowed, and sends no write-back or hint but through the gate. Where
-- a line is called in, the row before it refuses, so that the home still has room for one more pending line.
use Rattle.std.proofs.Common.{◌≡◌, ◌≢◌, ℕ, ◌+◌, ◌<◌, ◌≤◌, Bool, true, false, cond, ◌==◌, not, inl, List, [], ◌∷◌, refl, arith, ap, sym, ◌∙◌, subst, Ok}
use Rattle.std.proofs.lemmas.Bool.Decides.{nat_tests}
use Rattle.line_map.specs.Sizes.{Sizes, home_of}
use Rattle.op_model.specs.Events.Node.{is_get}
use Rattle.op_model.specs.Events.Step.{Done, after, departures, effect, is_departure, put_at}
use Rattle.op_model.specs.Lines.{Header, LineShare, Outcome, Room, is_empty, is_pending}
use Rattle.op_model.specs.Messages.{Content, msg_content, msg_line}
use Rattle.op_model.specs.Nodes.{in_order}
use Rattle.op_model.specs.Run.Runs.{Past}
use Rattle.op_model.specs.Shares.{Charge, State, Trace, header_of, program, put_share, room_of, share_at}
use Rattle.op_model.specs.Tables.Home.{lacks_link, wants_victim}
use Rattle.op_model.specs.Tables.Processor.{call_in, evict, hit, holds_link}
use Rattle.op_model.specs.declared.events.Class.TheVariants.{Request}
use Rattle.op_model.specs.declared.events.Class.{Class}
use Rattle.op_model.specs.declared.events.Event.{Event}
use Rattle.op_model.specs.declared.events.EvictKind.{EvictKind}
use Rattle.op_model.specs.declared.messages.Msg.{Msg}
use Rattle.op_model.proofs.Public.{eqb-self, last_of_four, three_parts}
use Rattle.one_history.specs.Project.{line_words, of_line, project}
use Rattle.one_history.specs.Sound.{IsSound, answered_of}
use Rattle.one_history.proofs.Public.{of_line-front, refuses}
use Rattle.lane_bounds.proofs.Acts.{Act, after_act, after_row_of, just, taken_of}
use Rattle.lane_bounds.proofs.Allowed.{IsAllowed, begin-allowed, evict-allowed, hit-allowed, message-allowed, reclaim-allowed}
use Rattle.lane_bounds.proofs.Effects.{IsEach, asks_victim, each-event, is_fit, is_gated, row_at}
use Rattle.lane_bounds.proofs.Evictions.{evict-fits}
use Rattle.lane_bounds.proofs.Forwards.{for-another}
use Rattle.lane_bounds.proofs.Homes.{pending-stays}
use Rattle.lane_bounds.proofs.Kept.{IsBounded, IsMeasured, bounded-row, measured-quiet}
use Rattle.lane_bounds.proofs.Lanes.{taken-either}
use Rattle.lane_bounds.proofs.Sends.{IsForAnother, addressed-none, else-begin, else-evict, else-hit, else-message, quiet-begin, quiet-each, quiet-hit, quiet-message, quiet-reclaim}

-- a line is called in where its home may have one more pending line
pub call-allowed : (room : Room) (row : LineShare) → room.full ≡ false → IsAllowed room row.header (call_in row).share.header
call-allowed room row free = record { pending = λ a b. free; links = λ _. inl (omega arith) }

-- without its first message a lane has no more of a line, and no more write-backs and hints
first-gone : (q : ℕ) (m : Msg) (ms : List Msg) → of_line q (m ∷ ms) ≡ [] → of_line q ms ≡ []
first-gone q m ms e = go (msg_line m == q) e
  where
    go : (c : Bool) → cond c (msg_content m ∷ of_line q ms) (of_line q ms) ≡ [] → of_line q ms ≡ []
    go true e = cc
    go false e = e

fewer-left : (m : Msg) (ms : List Msg) (limit : ℕ) → departures (m ∷ ms) ≤ limit → departures ms ≤ limit
fewer-left m ms limit le = go (is_departure (msg_content m)) le
  where
    go : (c : Bool) → cond c (departures ms + 1) (departures ms) ≤ limit → departures ms ≤ limit
    go true le = omega arith
    go false le = le

pub not-full : (room : Room) (src : ℕ) (header : Header) → wants_victim room src header ≡ true → room.full ≡ false
unfolding wants_victim
not-full room src header e = last_of_four (is_pending header) (lacks_link room src header) room.link_pending room.full e

module _ (charge : Charge) (trace : Trace) (positive : 0 < trace.sizes.words) (past : Past) (sound : IsSound trace past) (bounded : IsBounded charge trace.sizes past.state) where
  abbrev sizes : Sizes
  sizes = trace.sizes

  abbrev state : State
  state = past.state

  abbrev room : ℕ → Room
  room node = room_of charge sizes (state.share node)

  abbrev row : (node line : ℕ) → LineShare
  row node line = share_at sizes state node line

  abbrev Keeps : Act → Type 0
  Keeps d = IsBounded charge sizes (after_act sizes d state)

  evict-measured : (node line : ℕ) (kind : EvictKind) (o : Outcome) → evict node (home_of sizes line) kind (row node line) ≡ Ok o → is_gated sizes state node (home_of sizes line) kind ≡ false → IsMeasured sizes state.lane node line o.sends
  evict-measured node line kind o e free =
      record {
        departs = λ b. evict-fits (row node line) (home_of sizes line) sizes.evicts (λ b. departures (state.lane node b Request)) (bounded.departs node) node kind o e free b;
        apart = λ class far. addressed-none node class o.sends (else-evict node (home_of sizes line) (λ k. far (sym k)) (room node) (row node line) kind o e);
      }

  -- a row that takes no message
  local : (node line : ℕ) (o : Outcome) → (node ≡ home_of sizes line → IsAllowed (room node) (header_of sizes (state.share node) line) o.share.header) → IsMeasured sizes state.lane node line o.sends → Keeps (just state node line o)
  unfolding after_act
  local node line o allowed measured = bounded-row charge sizes state bounded node line o state.lane allowed bounded.departs bounded.apart measured

  -- what is allowed at the home, where the node is the home
  at-home : (node line : ℕ) (new : Header) → IsAllowed (room (home_of sizes line)) (header_of sizes (state.share (home_of sizes line)) line) new → node ≡ home_of sizes line → IsAllowed (room node) (header_of sizes (state.share node) line) new
  at-home node line new a same = subst (λ n. IsAllowed (room n) (header_of sizes (state.share n) line) new) (sym same) a

  at-begin : (node line : ℕ) (new : Header) → IsAllowed (room node) (header_of sizes (state.share (home_of sizes line)) line) new → node ≡ home_of sizes line → IsAllowed (room node) (header_of sizes (state.share node) line) new
  at-begin node line new a same = subst (λ n. IsAllowed (room node) (header_of sizes (state.share n) line) new) (sym same) a

  module _ (src dst : ℕ) (class : Class) (m : Msg) (rest : List Msg) (front : state.lane src dst class ≡ m ∷ rest) where
    abbrev line : ℕ
    line = msg_line m

    abbrev content : Content
    content = msg_content m

    abbrev outcome : Outcome
    outcome = row_at charge sizes state src dst line content

    abbrev alone : Bool
    alone = is_empty (row dst line).copy

    lane-departs : (a b : ℕ) → departures (taken_of src dst class rest state.lane a b Request) ≤ sizes.evicts
    lane-departs a b =
        taken-either src dst class rest state.lane (λ ms. departures ms ≤ sizes.evicts) a b Request (bounded.departs a b)
        (λ x y z.
        let is : state.lane a b Request ≡ m ∷ rest = cc in
        fewer-left m rest sizes.evicts (subst (λ ms. departures ms ≤ sizes.evicts) is (bounded.departs a b)))

    lane-apart : (q a : ℕ) (k : Class) → home_of sizes q ≢ a → of_line q (taken_of src dst class rest state.lane a a k) ≡ []
    lane-apart q a k far =
        taken-either src dst class rest state.lane (λ ms. of_line q ms ≡ []) a a k (bounded.apart q a k far)
        (λ x y z. let is : state.lane a a k ≡ m ∷ rest = cc in first-gone q m rest (subst (λ ms. of_line q ms ≡ []) is (bounded.apart q a k far)))

    goes-on : dst ≢ home_of sizes line → IsForAnother dst content
    unfolding project
    goes-on far = for-another (home_of sizes line) (project sizes state (line_words sizes past.served line) (answered_of sizes past line) line) (sound.lines line) dst far src (of_line line rest) class content (ap (of_line line) front ∙ of_line-front m rest)

    took : IsBounded charge sizes (after_row_of sizes dst line outcome (record state { lane = taken_of src dst class rest state.lane }))
    took =
        bounded-row charge sizes state bounded dst line outcome (taken_of src dst class rest state.lane)
        (λ same. subst (λ n. IsAllowed (room dst) (header_of sizes (state.share n) line) outcome.share.header) (sym same)
        (message-allowed (room dst) (row dst line) dst (home_of sizes line) src alone content))
        lane-departs lane-apart
        (measured-quiet sizes (taken_of src dst class rest state.lane) dst line outcome lane-departs
        (quiet-message (room dst) (row dst line) dst (home_of sizes line) src alone content)
        (λ far. else-message dst (home_of sizes line) far (room dst) (row dst line) src alone content (goes-on far)))

    -- where a line is to be called in, the row before it makes no line pending
    still-room : asks_victim charge sizes state src dst line content ≡ true →
        (room_of charge sizes (put_at state.share dst (put_share sizes (dst == home_of sizes line) line outcome.done outcome.share (state.share dst)) dst)).full ≡ false
    still-room asks =
        let want = three_parts (is_get content) (dst == home_of sizes line) (wants_victim (room dst) src (row dst line).header) asks in
        let same : dst ≡ home_of sizes line = let e = want.1 in grind (arith, nat_tests) in
        let stays : outcome.share ≡ row dst line = refuses dst (home_of sizes line) src alone (room dst) content (row dst line) want.0 want.2 in
        let count = pending-stays charge sizes (state.share dst) (dst == home_of sizes line) line outcome.done outcome.share
        (λ _. ap (λ s. s.header) stays ∙ ap (λ n. header_of sizes (state.share n) line) (sym same)) in
        rw (eqb-self dst, count) (not-full (room dst) src (row dst line).header want.2)

    called : (g : ℕ) → asks_victim charge sizes state src dst line content ≡ true → is_fit charge sizes state dst g ≡ true →
        (next : State) → next ≡ after_row_of sizes dst line outcome (record state { lane = taken_of src dst class rest state.lane }) →
        IsBounded charge sizes (after_row_of sizes dst g (call_in (share_at sizes next dst g)) next)
    called g asks fit next is =
        let before : IsBounded charge sizes next = subst (IsBounded charge sizes) (sym is) took in
        let free : (room_of charge sizes (next.share dst)).full ≡ false = ap (λ s. (room_of charge sizes (s.share dst)).full) is ∙ still-room asks in
        let fits = three_parts (home_of sizes g == dst) (holds_link (room dst) (row dst g).header) (not (is_pending (row dst g).header)) fit in
        let here : dst ≡ home_of sizes g = let e = fits.0 in grind (arith, nat_tests) in
        bounded-row charge sizes next before dst g (call_in (share_at sizes next dst g)) next.lane
        (λ same. subst (λ n. IsAllowed (room_of charge sizes (next.share dst)) (header_of sizes (next.share n) g) (call_in (share_at sizes next dst g)).share.header) (sym same) (call-allowed (room_of charge sizes (next.share dst)) (share_at sizes next dst g) free))
        before.departs before.apart
        (measured-quiet sizes next.lane dst g (call_in (share_at sizes next dst g)) before.departs (quiet-each (in_order (share_at sizes next dst g).header.list)) (λ far. absurd (far here)))

  pub bounded-each : IsEach charge trace state Keeps
  unfolding after_act
  bounded-each =
      record {
        hits = λ node line op next serve. local node line (hit op (row node line)) (at-home node line _ (hit-allowed (room (home_of sizes line)) (row node line) op))
            (measured-quiet sizes state.lane node line (hit op (row node line)) bounded.departs (quiet-hit (room node) (row node line) op) (λ far. else-hit node (home_of sizes line) far (room node) (row node line) op));
        begins = λ node line op o next e. local node line o (at-begin node line _ (begin-allowed (room node) (row node line) node (home_of sizes line) op o e))
            (measured-quiet sizes state.lane node line o bounded.departs (quiet-begin (room node) (row node line) node (home_of sizes line) op o e) (λ far. else-begin node (home_of sizes line) far (room node) (row node line) op o e));
        leaves = λ node line kind o e free. local node line o (at-home node line _ (evict-allowed (room (home_of sizes line)) (row node line) node (home_of sizes line) kind o e)) (evict-measured node line kind o e free);
        reclaims = λ line o e. local (home_of sizes line) line o (at-home (home_of sizes line) line _ (reclaim-allowed (room (home_of sizes line)) (row (home_of sizes line) line) o e))
            (measured-quiet sizes state.lane (home_of sizes line) line o bounded.departs (quiet-reclaim (room (home_of sizes line)) (row (home_of sizes line) line) o e) (λ far. absurd (far refl)));
        messages = λ src dst class. record {
          takes = λ m rest front asks. took src dst class m rest front;
          calls = λ m rest g front asks fit. called src dst class m rest front g asks fit _ refl;
        };
      }

  pub bounded-event : (event : Event) (d : Done) → effect charge sizes (program trace) state event ≡ Ok d → IsBounded charge sizes (after state d)
  bounded-event event d is = let met = each-event charge trace positive past sound Keeps bounded-each event d is in subst (IsBounded charge sizes) (sym met.2.same) met.1
