-- Every run keeps to the nodes of its machine: a row is at a node of it and of a line whose home is one, since an operation is of its trace, a copy is evicted where there is one, and a message is taken where there is one.
use Rattle.std.proofs.Common.{◌≡◌, ◌⊎◌, inl, inr, ℕ, ◌<◌, ◌≤◌, Bool, true, false, ◌==◌, slice_get, List, [], ◌∷◌, refl, arith, ap, sym, subst, ◌∙◌, Some, Ok}
use Rattle.std.proofs.lemmas.Bool.{cases_lt, eqb-true, eqb-false}
use Rattle.std.specs.Prelude.{unwrap_or}
use Rattle.line_map.specs.Sizes.{Sizes, home_of, line_of}
use Rattle.op_model.specs.declared.events.Class.{Class}
use Rattle.op_model.specs.declared.events.Event.{Event}
use Rattle.op_model.specs.declared.events.EvictKind.{EvictKind}
use Rattle.op_model.specs.declared.messages.Msg.{Msg}
use Rattle.op_model.specs.declared.operations.Op.{Op}
use Rattle.op_model.specs.Events.Step.{Off}
use Rattle.op_model.specs.Lines.{Absent, LineShare, Outcome, is_empty}
use Rattle.op_model.specs.Messages.{msg_content, msg_line}
use Rattle.op_model.specs.Nodes.{count, count-none, listed-none}
use Rattle.op_model.specs.Shares.{State, Trace, Unlinked, copy_of, first_header, header_in, header_of, is_set_empty, line_share, program, room_of}
use Rattle.op_model.specs.Tables.Processor.{evict, hit}
use Rattle.one_history.proofs.Public.{first-copy, first-header}
use Rattle.lane_bounds.proofs.Public.{taken-either, taken_of}
use Rattle.node_range.specs.Range.{AreIn, IsHeaderIn, IsOfMachine, IsRanged, IsSentIn}
use Rattle.node_range.proofs.Public.{evict-in, next-in, ranged-row}
use Rattle.message_range.proofs.Public.{evicts-copy, filled}
use Rattle.eager_model.specs.Node.{taking}
use Rattle.eager_model.specs.Rows.{begin_op}
use Rattle.eager_model.specs.Runs.{Past, past_after, run, start}
use Rattle.eager_model.specs.Step.{AgedDone, Ages, effect}
use Rattle.eager_part.proofs.EachAct.{each-act}
use Rattle.eager_part.proofs.Events.{each-event, next}
use Rattle.eager_part.proofs.OwnRuns.{AreOwn, own-event, own-start}
use Rattle.eager_part.proofs.Range.{eager-begin-in, eager-message-in}
use Rattle.eager_part.proofs.Steps.{IsDone, IsGiven, keeps-run}

first-in : (sizes : Sizes) → IsHeaderIn sizes.nodes (first_header sizes)
first-in sizes = record { lists = λ q is. absurd (let d : false ≡ true = sym (listed-none q) ∙ is in cc); waits = tt }

module _ (trace : Trace) (all : IsOfMachine trace) (state : State) (own : AreOwn trace state) (ranged : IsRanged trace.sizes state) where
  abbrev sizes : Sizes
  sizes = trace.sizes

  abbrev N : ℕ
  N = sizes.nodes

  abbrev at : ℕ → ℕ → LineShare
  at node line = line_share sizes (state.share node) line

  abbrev Keeps : State → Type 0
  Keeps s = IsRanged sizes s

  -- what a node has of a header, at its home and elsewhere
  header-in : (node line : ℕ) → IsHeaderIn N (header_of sizes (state.share node) line)
  unfolding header_in
  header-in node line = go (home_of sizes line == node) refl
    where
      go : (c : Bool) → (home_of sizes line == node) ≡ c → IsHeaderIn N (header_of sizes (state.share node) line)
      go true e = subst (λ k. IsHeaderIn N (header_of sizes (state.share k) line)) (eqb-true (home_of sizes line) node e) (ranged.headers line)
      go false e = subst (λ o. IsHeaderIn N (unwrap_or o (first_header sizes))) (sym ((own.parts node).headers line (eqb-false (home_of sizes line) node e))) (first-in sizes)

  above : (n : ℕ) → n < N → 0 < N
  above n lt = omega arith

  -- a row of a node and a line of the machine
  kept : (node line : ℕ) (o : Outcome) → node < N → home_of sizes line < N → IsHeaderIn N o.share.header × IsSentIn N o.sends → Keeps (next sizes (program trace) state node line o state.lane)
  kept node line o node_in home_in row = ranged-row sizes state ranged node line o state.lane node_in home_in (λ _. row.0) row.1 ranged.lanes ranged.messages

  begins : (node : ℕ) (op : Op) (o : Outcome) → slice_get (program trace node) (state.share node).place ≡ Some op → begin_op node (home_of sizes (line_of sizes op.word)) (room_of Unlinked sizes (state.share node)) op (at node (line_of sizes op.word)) ≡ Ok o → Keeps (next sizes (program trace) state node (line_of sizes op.word) o state.lane)
  begins node op o is e =
      let line = line_of sizes op.word in
      let ends = next-in trace all node (state.share node).place line op (is, refl) in
      kept node line o ends.0 ends.1 (eager-begin-in N (above node ends.0) (room_of Unlinked sizes (state.share node)) (at node line) (header-in node line) node (home_of sizes line) ends.0 ends.1 op o e)

  hits : (node : ℕ) (op : Op) → slice_get (program trace node) (state.share node).place ≡ Some op → Keeps (next sizes (program trace) state node (line_of sizes op.word) (hit op (at node (line_of sizes op.word))) state.lane)
  unfolding hit
  hits node op is =
      let line = line_of sizes op.word in
      let ends = next-in trace all node (state.share node).place line op (is, refl) in
      kept node line (hit op (at node line)) ends.0 ends.1 (header-in node line, tt)

  -- a copy is at a node of the machine, and of a line of it
  pub copy-in : (node line : ℕ) → is_empty (copy_of (state.share node) line) ≡ false → (node < N) × (home_of sizes line < N)
  copy-in node line full = go (cases_lt node N) (cases_lt (home_of sizes line) N)
    where
      none : copy_of (state.share node) line ≡ Absent → ⊥
      none e = let d : true ≡ false = sym (ap is_empty e) ∙ full in cc

      go : (node < N) ⊎ (N ≤ node) → (home_of sizes line < N) ⊎ (N ≤ home_of sizes line) → (node < N) × (home_of sizes line < N)
      go (inl a) (inl b) = (a, b)
      go (inr a) b = absurd (none (ranged.copies node line (inl a)))
      go a (inr b) = absurd (none (ranged.copies node line (inr b)))

  evicts : (node line : ℕ) (kind : EvictKind) (o : Outcome) → evict node (home_of sizes line) kind (at node line) ≡ Ok o → Keeps (next sizes (program trace) state node line o state.lane)
  evicts node line kind o e =
      let ends = copy-in node line (evicts-copy node (home_of sizes line) kind (at node line) o e) in
      kept node line o ends.0 ends.1 (evict-in N (above node ends.0) (room_of Unlinked sizes (state.share node)) (at node line) (header-in node line) node (home_of sizes line) ends.0 ends.1 kind o e)

  takes : (src dst : ℕ) (class : Class) (m : Msg) (rest : List Msg) → state.lane src dst class ≡ m ∷ rest → Keeps (next sizes (program trace) state dst (msg_line m) (taking sizes dst (state.share dst) src m) (taken_of src dst class rest state.lane))
  takes src dst class m rest front =
      let ends = filled Unlinked trace all state ranged dst src class m rest front in
      let here : AreIn sizes (m ∷ rest) = subst (AreIn sizes) front (ranged.messages src dst class) in
      let row = eager-message-in N (above src ends.0) (room_of Unlinked sizes (state.share dst)) (at dst (msg_line m)) (header-in dst (msg_line m)) dst (home_of sizes (msg_line m)) ends.1 here.0 src ends.0 (is_set_empty sizes (state.share dst) (msg_line m)) (msg_content m) here.1 in
      ranged-row sizes state ranged dst (msg_line m) (taking sizes dst (state.share dst) src m) (taken_of src dst class rest state.lane) ends.1 here.0 (λ _. row.0) row.1
      (λ a b k far. taken-either src dst class rest state.lane (λ ms. ms ≡ []) a b k (ranged.lanes a b k far) (λ x y z. let none : state.lane src dst class ≡ [] = (λ i. state.lane (sym x i) (sym y i) (sym z i)) ∙ ranged.lanes a b k far in absurd (let d : [] ≡ m ∷ rest = sym none ∙ front in cc)))
      (λ a b k. taken-either src dst class rest state.lane (AreIn sizes) a b k (ranged.messages a b k) (λ x y z. here.2))

  -- an event is done at a node of the machine
  pub acts-in : (ages : Ages) (d : AgedDone) → IsDone sizes (program trace) state ages d → d.node < N
  acts-in ages d done =
      each-act sizes d.node (program trace d.node) (state.share d.node) (λ input _. (age : ℕ) (off : Off) → IsGiven sizes state ages d.node input age off → d.node < N)
      (record {
        hits = λ op is _ _ _ _ _. (next-in trace all d.node (state.share d.node).place (line_of sizes op.word) op (is, refl)).0;
        begins = λ op is _ _ _ _ _ _ _. (next-in trace all d.node (state.share d.node).place (line_of sizes op.word) op (is, refl)).0;
        evicts = λ line kind _ o row _ _ _. (copy-in d.node line (evicts-copy d.node (home_of sizes line) kind (at d.node line) o row)).0;
        takes = λ src m _ _ given. (filled Unlinked trace all state ranged d.node src given.0 m given.1 given.2).1;
      }) done.input d.did.out done.does done.age d.off done.given

-- what each event keeps
pub record AreRanged (trace : Trace) (state : State) : Type 0 where
  pub own : AreOwn trace state
  pub ranged : IsRanged trace.sizes state

module _ (trace : Trace) (all : IsOfMachine trace) where
  pub ranged-event : (past : Past) → AreRanged trace past.state → (event : Event) (d : AgedDone) → effect trace.sizes (program trace) past.state past.ages event ≡ Ok d → AreRanged trace (past_after trace.sizes past d).state
  ranged-event past is event d e =
      record {
        own = own-event trace past is.own event d e;
        ranged = each-event trace.sizes (program trace) past.state (IsRanged trace.sizes)
            (record {
              hits = λ node op at _ _. hits trace all past.state is.own is.ranged node op at;
              begins = λ node op at _ _ o row. begins trace all past.state is.own is.ranged node op o at row;
              evicts = λ node line kind o row _. evicts trace all past.state is.own is.ranged node line kind o row;
              takes = takes trace all past.state is.own is.ranged;
            }) past.ages event d e;
      }

  pub ranged-start : AreRanged trace (start trace.sizes).state
  ranged-start =
      record {
        own = own-start trace;
        ranged = record {
          copies = λ n line far. first-copy trace.sizes n line;
          headers = λ line. subst (IsHeaderIn trace.sizes.nodes) (sym (first-header trace.sizes (home_of trace.sizes line) line)) (first-in trace.sizes);
          strange = λ line far. ap (λ h. count h.list) (first-header trace.sizes (home_of trace.sizes line) line) ∙ count-none;
          lanes = λ a b class far. refl;
          messages = λ a b class. tt;
        };
      }

  pub ranged-run : (events : List Event) (past : Past) → run trace events ≡ Some past → AreRanged trace past.state
  ranged-run events past runs = keeps-run trace (λ p. AreRanged trace p.state) ranged-event ranged-start events past runs

module _ (trace : Trace) (events : List Event) (past : Past) (all : IsOfMachine trace) (runs : run trace events ≡ Some past) where
  pub other_lanes : (a b : ℕ) (class : Class) → (trace.sizes.nodes ≤ a) ⊎ (trace.sizes.nodes ≤ b) → past.state.lane a b class ≡ []
  other_lanes = (ranged-run trace all events past runs).ranged.lanes

  pub other_copies : (n line : ℕ) → trace.sizes.nodes ≤ n → copy_of (past.state.share n) line ≡ Absent
  other_copies n line far = (ranged-run trace all events past runs).ranged.copies n line (inl far)

  pub headers_in : (line : ℕ) → IsHeaderIn trace.sizes.nodes (header_of trace.sizes (past.state.share (home_of trace.sizes line)) line)
  headers_in = (ranged-run trace all events past runs).ranged.headers

  pub messages_in : (a b : ℕ) (class : Class) → AreIn trace.sizes (past.state.lane a b class)
  messages_in = (ranged-run trace all events past runs).ranged.messages
