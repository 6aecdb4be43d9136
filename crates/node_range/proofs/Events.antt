-- Each event keeps to the machine, and so does every run.
-- Every row is at a node of the machine and of a line whose home is one: an operation is of its trace, a copy is evicted where there is
-- one, a line is called in where it lists a node, and a message is taken where there is one.
use Rattle.std.proofs.Common.{◌≡◌, ℕ, ◌<◌, ◌≤◌, Bool, true, false, cond, ◌==◌, ◌&&◌, not, ◌⊎◌, inl, inr, List, [], ◌∷◌, refl, arith, ap, sym, ◌∙◌, subst, Some, Result, Ok, Err}
use Rattle.std.proofs.lemmas.Bool.{cases_lt}
use Rattle.std.proofs.lemmas.Bool.Decides.{nat_tests}
use Rattle.line_map.specs.Sizes.{Sizes, home_of}
use Rattle.op_model.specs.declared.events.Cause.{Cause}
use Rattle.op_model.specs.declared.events.Cause.TheVariants.{BudgetFull, LinePending, NoCopy, NoLinks, WrongKind}
use Rattle.op_model.specs.declared.events.Class.{Class}
use Rattle.op_model.specs.declared.events.Event.{Event}
use Rattle.op_model.specs.declared.events.EvictKind.{EvictKind}
use Rattle.op_model.specs.declared.messages.Msg.{Msg}
use Rattle.op_model.specs.declared.operations.Op.{Op}
use Rattle.op_model.specs.Events.Step.{Done, after, effect}
use Rattle.op_model.specs.Lines.{Absent, LineShare, Outcome, Room, is_empty, is_pending}
use Rattle.op_model.specs.Messages.{Content, msg_content, msg_line}
use Rattle.op_model.specs.Nodes.{count, count-none, listed-none}
use Rattle.op_model.specs.Run.Runs.{Past, run, start}
use Rattle.op_model.specs.Shares.{Charge, State, Trace, copy_of, header_of, program, room_of, share_at}
use Rattle.op_model.specs.Tables.Processor.{call_in, evict, fits, hit, holds_link, leave_home, leave_remote, reclaim}
use Rattle.one_history.specs.Sound.{IsSound}
use Rattle.one_history.proofs.Public.{first-copy, first-header}
use Rattle.lane_bounds.proofs.Public.{Act, IsEach, after_act, after_row_of, each-event, is_fit, just}
use Rattle.lane_bounds.proofs.Public.{keeps-run, row_at, taken-either, taken_of}
use Rattle.node_range.specs.Range.{AreIn, IsHeaderIn, IsOfMachine, IsRanged, IsSentIn}
use Rattle.node_range.proofs.Programs.{next-in}
use Rattle.node_range.proofs.Rows.{ranged-row}
use Rattle.node_range.proofs.Tables.{begin-in, call-in-in, evict-in, message-in, reclaim-in}

evict-none : (me home : ℕ) (kind : EvictKind) (share : LineShare) (o : Outcome) → share.copy ≡ Absent → evict me home kind share ≡ Ok o → ⊥
unfolding evict
evict-none me home kind share o none e = go (fits (me == home) kind share.copy) (ap (fits (me == home) kind) none) e
  where
    go : (c : Bool) → c ≡ false → ◌≡◌ {A = Result Outcome Cause} (cond c (Ok (cond (me == home) (leave_home share.copy share) (leave_remote home kind share))) (Err (elim share.copy [ Absent ↦ NoCopy | _ ↦ WrongKind ]))) (Ok o) → ⊥
    go true f e = cc
    go false f e = cc

reclaim-none : (room : Room) (share : LineShare) (o : Outcome) → count share.header.list ≡ 0 → reclaim room share ≡ Ok o → ⊥
unfolding reclaim
reclaim-none room share o none e = go (holds_link room share.header) (off room.linked (count share.header.list) none) e
  where
    off : (l : Bool) (n : ℕ) → n ≡ 0 → (l && not (n == 0) && not (n == 1)) ≡ false
    off l n e = grind (arith, nat_tests)

    go : (c : Bool) → c ≡ false → ◌≡◌ {A = Result Outcome Cause} (cond (not c) (Err NoLinks) (cond (is_pending share.header) (Err LinePending) (cond room.full (Err BudgetFull) (Ok (call_in share))))) (Ok o) → ⊥
    go true f e = cc
    go false f e = cc

hit-header : (nodes : ℕ) (share : LineShare) (op : Op) → IsHeaderIn nodes share.header → IsHeaderIn nodes (hit op share).share.header
unfolding hit
hit-header nodes share op h = h

hit-sends : (nodes : ℕ) (share : LineShare) (op : Op) → IsSentIn nodes (hit op share).sends
unfolding hit
hit-sends nodes share op = tt

module _ (charge : Charge) (trace : Trace) (all : IsOfMachine trace) (state : State) (ranged : IsRanged trace.sizes state) where
  abbrev sizes : Sizes
  sizes = trace.sizes

  abbrev Keeps : Act → Type 0
  Keeps d = IsRanged sizes (after_act sizes d state)

  local : (node line : ℕ) (o : Outcome) → node < sizes.nodes → home_of sizes line < sizes.nodes → IsHeaderIn sizes.nodes o.share.header → IsSentIn sizes.nodes o.sends → Keeps (just state node line o)
  unfolding after_act
  local node line o node_in home_in header sends = ranged-row sizes state ranged node line o state.lane node_in home_in (λ same. header) sends ranged.lanes ranged.messages

  copy-in : (node line : ℕ) → (copy_of (state.share node) line ≡ Absent → ⊥) → (node < sizes.nodes) × (home_of sizes line < sizes.nodes)
  copy-in node line has = go (cases_lt node sizes.nodes) (cases_lt (home_of sizes line) sizes.nodes)
    where
      go : (node < sizes.nodes) ⊎ (sizes.nodes ≤ node) → (home_of sizes line < sizes.nodes) ⊎ (sizes.nodes ≤ home_of sizes line) → (node < sizes.nodes) × (home_of sizes line < sizes.nodes)
      go (inl a) (inl b) = (a, b)
      go (inr a) b = absurd (has (ranged.copies node line (inl a)))
      go a (inr b) = absurd (has (ranged.copies node line (inr b)))

  left : (node line : ℕ) (kind : EvictKind) (o : Outcome) → evict node (home_of sizes line) kind (share_at sizes state node line) ≡ Ok o → Keeps (just state node line o)
  left node line kind o e =
      let at = copy-in node line (λ none. evict-none node (home_of sizes line) kind (share_at sizes state node line) o none e) in
      let r = evict-in sizes.nodes (above (home_of sizes line) at.1) (room_of charge sizes (state.share node)) (share_at sizes state node line) (ranged.headers line) node (home_of sizes line) at.0 at.1 kind o e in
      local node line o at.0 at.1 r.0 r.1
    where
      above : (n : ℕ) → n < sizes.nodes → 0 < sizes.nodes
      above n lt = omega arith

  line-in : (line : ℕ) → (count (header_of sizes (state.share (home_of sizes line)) line).list ≡ 0 → ⊥) → home_of sizes line < sizes.nodes
  line-in line has = go (cases_lt (home_of sizes line) sizes.nodes)
    where
      go : (home_of sizes line < sizes.nodes) ⊎ (sizes.nodes ≤ home_of sizes line) → home_of sizes line < sizes.nodes
      go (inl a) = a
      go (inr a) = absurd (has (ranged.strange line a))

  module _ (src dst : ℕ) (class : Class) (m : Msg) (rest : List Msg) (front : state.lane src dst class ≡ m ∷ rest) where
    abbrev line : ℕ
    line = msg_line m

    abbrev content : Content
    content = msg_content m

    abbrev outcome : Outcome
    outcome = row_at charge sizes state src dst line content

    filled : state.lane src dst class ≡ [] → ⊥
    filled none = let n : [] ≡ m ∷ rest = sym none ∙ front in cc

    ends : (src < sizes.nodes) × (dst < sizes.nodes)
    ends = go (cases_lt src sizes.nodes) (cases_lt dst sizes.nodes)
      where
        go : (src < sizes.nodes) ⊎ (sizes.nodes ≤ src) → (dst < sizes.nodes) ⊎ (sizes.nodes ≤ dst) → (src < sizes.nodes) × (dst < sizes.nodes)
        go (inl a) (inl b) = (a, b)
        go (inr a) b = absurd (filled (ranged.lanes src dst class (inl a)))
        go a (inr b) = absurd (filled (ranged.lanes src dst class (inr b)))

    here : AreIn sizes (m ∷ rest)
    here = subst (AreIn sizes) front (ranged.messages src dst class)

    taken : IsRanged sizes (after_row_of sizes dst line outcome (record state { lane = taken_of src dst class rest state.lane }))
    taken =
        let row = message-in sizes.nodes (let lt = ends.0 in omega arith) (room_of charge sizes (state.share dst)) (share_at sizes state dst line) (ranged.headers line) dst (home_of sizes line) ends.1 here.0 src ends.0 (is_empty (copy_of (state.share dst) line)) content here.1 in
        ranged-row sizes state ranged dst line outcome (taken_of src dst class rest state.lane) ends.1 here.0 (λ same. row.0) row.1
        (λ a b k far. taken-either src dst class rest state.lane (λ ms. ms ≡ []) a b k (ranged.lanes a b k far) (λ x y z. absurd (filled (let same : state.lane src dst class ≡ state.lane a b k = cc in same ∙ ranged.lanes a b k far))))
        (λ a b k. taken-either src dst class rest state.lane (AreIn sizes) a b k (ranged.messages a b k) (λ x y z. here.2))

    called : (g : ℕ) → is_fit charge sizes state dst g ≡ true → (next : State) → IsRanged sizes next → IsRanged sizes (after_row_of sizes dst g (call_in (share_at sizes next dst g)) next)
    called g fit next before =
        let at : home_of sizes g ≡ dst = first (home_of sizes g == dst) _ _ fit (λ e. grind (arith, nat_tests)) in
        let home_in : home_of sizes g < sizes.nodes = let lt = ends.1 in omega arith in
        let row = call-in-in sizes.nodes (let lt = ends.0 in omega arith) (room_of charge sizes (next.share dst)) (share_at sizes next dst g) (before.headers g) dst (home_of sizes g) ends.1 home_in in
        ranged-row sizes next before dst g (call_in (share_at sizes next dst g)) next.lane ends.1 home_in (λ same. row.0) row.1 before.lanes before.messages
      where
        first : (a b c : Bool) → (a && b && c) ≡ true → (a ≡ true → home_of sizes g ≡ dst) → home_of sizes g ≡ dst
        first a b c e h = h (grind arith)

  pub ranged-each : IsEach charge trace state Keeps
  unfolding after_act
  ranged-each =
      record {
        hits = λ node line op next serve. let at = next-in trace all node (state.share node).place line op next in local node line (hit op (share_at sizes state node line)) at.0 at.1 (hit-header sizes.nodes (share_at sizes state node line) op (ranged.headers line)) (hit-sends sizes.nodes (share_at sizes state node line) op);
        begins = λ node line op o next e.
            let at = next-in trace all node (state.share node).place line op next in
            let r = begin-in sizes.nodes (let lt = at.0 in omega arith) (room_of charge sizes (state.share node)) (share_at sizes state node line) (ranged.headers line) node (home_of sizes line) at.0 at.1 op o e in
            local node line o at.0 at.1 r.0 r.1;
        leaves = λ node line kind o e free. left node line kind o e;
        reclaims = λ line o e.
            let at = line-in line (λ none. reclaim-none (room_of charge sizes (state.share (home_of sizes line))) (share_at sizes state (home_of sizes line) line) o none e) in
            let r = reclaim-in sizes.nodes (omega (arith, at)) (room_of charge sizes (state.share (home_of sizes line))) (share_at sizes state (home_of sizes line) line) (ranged.headers line) (home_of sizes line) (home_of sizes line) at at o e in
            local (home_of sizes line) line o at at r.0 r.1;
        messages = λ src dst class. record {
          takes = λ m rest front asks. taken src dst class m rest front;
          calls = λ m rest g front asks fit. called src dst class m rest front g fit _ (taken src dst class m rest front);
        };
      }

ranged-start : (sizes : Sizes) → IsRanged sizes (start sizes).state
ranged-start sizes =
    record {
      copies = λ n g far. first-copy sizes n g;
      headers = λ g. subst (IsHeaderIn sizes.nodes) (sym (first-header sizes (home_of sizes g) g)) (record { lists = λ q is. absurd (let n : false ≡ true = sym (listed-none q) ∙ is in cc); waits = tt });
      strange = λ g far. ap (λ h. count h.list) (first-header sizes (home_of sizes g) g) ∙ count-none;
      lanes = λ a b class far. refl;
      messages = λ a b class. tt;
    }

pub ranged-event : (charge : Charge) (trace : Trace) → IsOfMachine trace → 0 < trace.sizes.words → (past : Past) → IsSound trace past → IsRanged trace.sizes past.state → (event : Event) (d : Done) → effect charge trace.sizes (program trace) past.state event ≡ Ok d → IsRanged trace.sizes (after past.state d)
ranged-event charge trace all positive past sound ranged event d is =
    let met = each-event charge trace positive past sound (λ d. IsRanged trace.sizes (after_act trace.sizes d past.state)) (ranged-each charge trace all past.state ranged) event d is in
    subst (IsRanged trace.sizes) (sym met.2.same) met.1

-- every run keeps to the machine
pub ranged-run : (charge : Charge) (trace : Trace) → IsOfMachine trace → (events : List Event) (past : Past) → 0 < trace.sizes.words → run charge trace events ≡ Some past → IsRanged trace.sizes past.state
ranged-run charge trace all events past positive runs =
    (keeps-run charge trace positive (λ p. IsRanged trace.sizes p.state) (λ p sound it event d is. ranged-event charge trace all positive p sound it event d is) (ranged-start trace.sizes) events past runs).1

module _ (charge : Charge) (trace : Trace) (events : List Event) (past : Past) (all : IsOfMachine trace) (positive : 0 < trace.sizes.words) (runs : run charge trace events ≡ Some past) where
  pub ranged_lanes : (a b : ℕ) (class : Class) → (trace.sizes.nodes ≤ a) ⊎ (trace.sizes.nodes ≤ b) → past.state.lane a b class ≡ []
  ranged_lanes = (ranged-run charge trace all events past positive runs).lanes

  pub ranged_copies : (n line : ℕ) → trace.sizes.nodes ≤ n → copy_of (past.state.share n) line ≡ Absent
  ranged_copies n line far = (ranged-run charge trace all events past positive runs).copies n line (inl far)

  pub ranged_headers : (line : ℕ) → IsHeaderIn trace.sizes.nodes (header_of trace.sizes (past.state.share (home_of trace.sizes line)) line)
  ranged_headers = (ranged-run charge trace all events past positive runs).headers

  pub ranged_messages : (a b : ℕ) (class : Class) → AreIn trace.sizes (past.state.lane a b class)
  ranged_messages = (ranged-run charge trace all events past positive runs).messages
