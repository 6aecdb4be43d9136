-- In every run the write-backs and hints in each lane are within the gate, and the pending lines of each home within its budget: evictions alone send such messages, and only where the lane has room.
use Rattle.std.proofs.Common.{◌≡◌, ◌≢◌, ℕ, ◌+◌, ◌≤◌, Bool, true, false, cond, nat_le, ◌==◌, List, [], ◌∷◌, refl, arith, sym, subst, ◌∙◌, Some, Ok}
use Rattle.std.proofs.lemmas.Bool.{ne_eqb}
use Rattle.std.specs.List.{list_any}
use Rattle.line_map.specs.Sizes.{Sizes, home_of, line_of}
use Rattle.op_model.specs.declared.events.Class.{Class}
use Rattle.op_model.specs.declared.events.Class.TheVariants.{Request}
use Rattle.op_model.specs.declared.events.Event.{Event}
use Rattle.op_model.specs.declared.events.EvictKind.{EvictKind}
use Rattle.op_model.specs.declared.messages.Msg.{Msg}
use Rattle.op_model.specs.declared.operations.Op.{Op}
use Rattle.op_model.specs.Events.Step.{departures, is_departure}
use Rattle.op_model.specs.Lines.{LineShare, Outcome, Room}
use Rattle.op_model.specs.Messages.{Content, msg_content, msg_line}
use Rattle.op_model.specs.Nodes.{in_order, unlist}
use Rattle.op_model.specs.Operations.{Words}
use Rattle.op_model.specs.Shares.{Lanes, State, Trace, Unlinked, is_set_empty, line_share, pending_lines, program, room_of}
use Rattle.op_model.specs.Tables.Home.{on_wb}
use Rattle.op_model.specs.Tables.Processor.{evict, hit}
use Rattle.line_invariant.proofs.Public.{if-either}
use Rattle.one_history.specs.Project.{of_line}
use Rattle.lane_bounds.proofs.Public.{IsBounded, IsMeasured, Quiet, addressed-none, bounded-row}
use Rattle.lane_bounds.proofs.Public.{bounded-start, evict-allowed, evict-fits, hit-allowed, is_gated}
use Rattle.lane_bounds.proofs.Public.{measured-quiet, quiet-begin, quiet-each, quiet-hit, quiet-message}
use Rattle.lane_bounds.proofs.Public.{taken-either, taken_of}
use Rattle.eager_model.specs.Node.{taking}
use Rattle.eager_model.specs.Rows.{begin_op, on_inv_ack, on_message}
use Rattle.eager_model.specs.Runs.{Past, past_after, run}
use Rattle.eager_model.specs.Step.{AgedDone, effect}
use Rattle.eager_part.proofs.Allowed.{eager-begin-allowed, eager-message-allowed}
use Rattle.eager_part.proofs.Beginnings.{each-beginning}
use Rattle.eager_part.proofs.Events.{each-event, next}
use Rattle.eager_part.proofs.HomeWays.{AreGoing}
use Rattle.eager_part.proofs.Rows.{each-row}
use Rattle.eager_part.proofs.Steps.{keeps-run}
use Rattle.eager_part.proofs.WayRuns.{AreOnWays, begin-goes, evict-goes, hit-goes, own-empty, take-goes, way-event, way-start}

-- no row but an eviction sends a write-back or a hint
module _ (room : Room) (s : LineShare) (me home : ℕ) where
  quiet-beginning : (op : Op) (o : Outcome) → begin_op me home room op s ≡ Ok o → Quiet o
  quiet-beginning op = each-beginning me home room op s Quiet (record { writes = λ _ _ _ _ _ _. quiet-each (in_order s.header.list); delayed = λ x was _. quiet-begin room s me home op x was })

  module _ (src : ℕ) where
    quiet-ack : Quiet (on_inv_ack home src s)
    unfolding on_inv_ack
    quiet-ack = if-either Quiet (nat_le s.header.acks 1) _ _ (λ _. refl) (λ _. refl)

    quiet-wb : (words : Words) → Quiet (on_wb words s)
    unfolding on_wb
    quiet-wb words = refl

    quiet-taking : (alone : Bool) (content : Content) → Quiet (on_message me home src alone room content s)
    quiet-taking alone content =
        each-row me home src alone room s content Quiet
        (record {
          delayed = λ _. quiet-message room s me home src alone content;
          gives = λ _ _ _. quiet-each (in_order (unlist s.header.list src));
          acknowledges = λ _ _ _. quiet-ack;
          writes_back = λ words _ _ _ _. quiet-wb words;
          refuses = λ _ _ _. refl;
          nothing = refl;
        })

-- what goes to other nodes doesn't go to its own
elsewhere : (home me : ℕ) (sends : List (ℕ × Content)) → AreGoing home me sends → list_any (λ s. s.0 == me) sends ≡ false
elsewhere home me [] going = refl
elsewhere home me (send ∷ sends) going = rw (ne_eqb send.0 me (λ e. going.0.2 (sym e))) (elsewhere home me sends going.1)

fewer-left : (m : Msg) (ms : List Msg) (limit : ℕ) → departures (m ∷ ms) ≤ limit → departures ms ≤ limit
fewer-left m ms limit le = go (is_departure (msg_content m)) le
  where
    go : (c : Bool) → cond c (departures ms + 1) (departures ms) ≤ limit → departures ms ≤ limit
    go true le = omega arith
    go false le = le

-- what each event keeps
pub record AreBounded (trace : Trace) (state : State) : Type 0 where
  pub ways : AreOnWays trace state
  pub bounded : IsBounded Unlinked trace.sizes state

module _ (trace : Trace) (past : Past) (is : AreBounded trace past.state) where
  abbrev sizes : Sizes
  sizes = trace.sizes

  abbrev state : State
  state = past.state

  abbrev room : ℕ → Room
  room node = room_of Unlinked sizes (state.share node)

  abbrev at : (node line : ℕ) → LineShare
  at node line = line_share sizes (state.share node) line

  abbrev Keeps : State → Type 0
  Keeps s = IsBounded Unlinked sizes s

  measured : (lane : Lanes) (node line : ℕ) (o : Outcome) → ((a b : ℕ) → departures (lane a b Request) ≤ sizes.evicts) → Quiet o → AreGoing (home_of sizes line) node o.sends → IsMeasured sizes lane node line o.sends
  measured lane node line o departs quiet going = measured-quiet sizes lane node line o departs quiet (λ _. elsewhere (home_of sizes line) node o.sends going)

  hits : (node : ℕ) (op : Op) → Keeps (next sizes (program trace) state node (line_of sizes op.word) (hit op (at node (line_of sizes op.word))) state.lane)
  hits node op =
      let line = line_of sizes op.word in
      bounded-row Unlinked sizes state is.bounded node line (hit op (at node line)) state.lane (λ _. hit-allowed (room node) (at node line) op) is.bounded.departs is.bounded.apart
      (measured state.lane node line (hit op (at node line)) is.bounded.departs (quiet-hit (room node) (at node line) op) (hit-goes trace past is.ways node op))

  begins : (node : ℕ) (op : Op) (o : Outcome) → begin_op node (home_of sizes (line_of sizes op.word)) (room node) op (at node (line_of sizes op.word)) ≡ Ok o → Keeps (next sizes (program trace) state node (line_of sizes op.word) o state.lane)
  begins node op o e =
      let line = line_of sizes op.word in
      bounded-row Unlinked sizes state is.bounded node line o state.lane (λ _. eager-begin-allowed (room node) refl (at node line) node (home_of sizes line) op o e) is.bounded.departs is.bounded.apart
      (measured state.lane node line o is.bounded.departs (quiet-beginning (room node) (at node line) node (home_of sizes line) op o e) (begin-goes trace past is.ways node op o e))

  evicts : (node line : ℕ) (kind : EvictKind) (o : Outcome) → evict node (home_of sizes line) kind (at node line) ≡ Ok o → is_gated sizes state node (home_of sizes line) kind ≡ false → Keeps (next sizes (program trace) state node line o state.lane)
  evicts node line kind o e free =
      bounded-row Unlinked sizes state is.bounded node line o state.lane (λ _. evict-allowed (room node) (at node line) node (home_of sizes line) kind o e) is.bounded.departs is.bounded.apart
      (record {
        departs = λ b. evict-fits (at node line) (home_of sizes line) sizes.evicts (λ b. departures (state.lane node b Request)) (is.bounded.departs node) node kind o e free b;
        apart = λ class far. addressed-none node class o.sends (elsewhere (home_of sizes line) node o.sends (evict-goes trace past is.ways node line kind o e));
      })

  takes : (src dst : ℕ) (class : Class) (m : Msg) (rest : List Msg) → state.lane src dst class ≡ m ∷ rest → Keeps (next sizes (program trace) state dst (msg_line m) (taking sizes dst (state.share dst) src m) (taken_of src dst class rest state.lane))
  takes src dst class m rest front =
      let line = msg_line m in
      let o = taking sizes dst (state.share dst) src m in
      bounded-row Unlinked sizes state is.bounded dst line o (taken_of src dst class rest state.lane) (λ _. eager-message-allowed (room dst) refl (at dst line) dst (home_of sizes line) src (is_set_empty sizes (state.share dst) line) (msg_content m)) departs apart
      (measured (taken_of src dst class rest state.lane) dst line o departs (quiet-taking (room dst) (at dst line) dst (home_of sizes line) src (is_set_empty sizes (state.share dst) line) (msg_content m)) (take-goes trace past is.ways dst src class m rest front))
    where
      departs : (a b : ℕ) → departures (taken_of src dst class rest state.lane a b Request) ≤ sizes.evicts
      departs a b =
          taken-either src dst class rest state.lane (λ ms. departures ms ≤ sizes.evicts) a b Request (is.bounded.departs a b)
          (λ x y z. let same : state.lane a b Request ≡ m ∷ rest = cc in fewer-left m rest sizes.evicts (subst (λ ms. departures ms ≤ sizes.evicts) same (is.bounded.departs a b)))

      apart : (q a : ℕ) (k : Class) → home_of sizes q ≢ a → of_line q (taken_of src dst class rest state.lane a a k) ≡ []
      apart q a k far =
          taken-either src dst class rest state.lane (λ ms. of_line q ms ≡ []) a a k (is.bounded.apart q a k far)
          (λ x y z. absurd (let same : state.lane a a k ≡ m ∷ rest = cc in let d : [] ≡ m ∷ rest = sym (own-empty trace state is.ways a k) ∙ same in cc))

  pub bounded-event : (event : Event) (d : AgedDone) → effect sizes (program trace) past.state past.ages event ≡ Ok d → AreBounded trace (past_after sizes past d).state
  bounded-event event d e =
      record {
        ways = way-event trace past is.ways event d e;
        bounded = each-event sizes (program trace) state Keeps
            (record {
              hits = λ node op _ _ _. hits node op;
              begins = λ node op _ _ _ o row. begins node op o row;
              evicts = evicts;
              takes = takes;
            }) past.ages event d e;
      }

module _ (trace : Trace) (events : List Event) (past : Past) (runs : run trace events ≡ Some past) where
  pub bounded-run : AreBounded trace past.state
  bounded-run = keeps-run trace (λ p. AreBounded trace p.state) (λ p is event d e. bounded-event trace p is event d e) (record { ways = way-start trace; bounded = bounded-start Unlinked trace.sizes }) events past runs

  pub bounded_pending : (n : ℕ) → pending_lines (past.state.share n) ≤ trace.sizes.pending
  bounded_pending n = bounded-run.bounded.pending n

  pub bounded_departures : (a b : ℕ) → departures (past.state.lane a b Request) ≤ trace.sizes.evicts
  bounded_departures a b = bounded-run.bounded.departs a b
