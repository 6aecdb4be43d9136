-- How many messages a lane holds: each is of one kind, and each kind has its bound. The lane is spread over its lines: over the one that a node has begun, or over the pending lines of a home.
use Rattle.std.proofs.Common.{◌≡◌, ℕ, ◌+◌, ◌≤◌, ◌<◌, Bool, true, false, cond, ◌==◌, List, [], length, refl, arith, subst, Some}
use Rattle.std.proofs.lemmas.Bool.Decides.{nat_tests}
use Rattle.std.specs.Ordering.{nat_cmp}
use Rattle.std.specs.FinMap as fin
use Rattle.std.specs.FinMap.{find}
use Rattle.line_map.specs.Sizes.{Sizes, home_of}
use Rattle.op_model.specs.declared.events.Class.TheVariants.{Reply, Request}
use Rattle.op_model.specs.declared.events.Class.{Class}
use Rattle.op_model.specs.declared.events.Event.{Event}
use Rattle.op_model.specs.declared.messages.Msg.{Msg}
use Rattle.op_model.specs.Events.Step.{is_departure}
use Rattle.op_model.specs.Lines.{is_pending, is_outstanding}
use Rattle.op_model.specs.Messages.{Content}
use Rattle.op_model.specs.Run.Bounds.{lane_bound}
use Rattle.op_model.specs.Shares.{State, Trace, Unlinked, header_of, pending_lines, want_on}
use Rattle.one_history.specs.Project.{of_line, project}
use Rattle.lane_bounds.proofs.Public.{IsBounded, all-kinds, amount, amount-header, begun-one, begun-wanted}
use Rattle.lane_bounds.proofs.Public.{begun_lines, departs-weighed, is_answer, is_ask, is_back, is_told, kind}
use Rattle.lane_bounds.proofs.Public.{many, one_if, spread}
use Rattle.eager_model.specs.Runs.{Past, run}
use Rattle.eager_history.specs.Project.{aged_line}
use Rattle.eager_history.specs.Sound.{IsEagerSound}
use Rattle.eager_history.proofs.Public.{sound-run}
use Rattle.eager_part.proofs.Public.{bounded-run}
use Rattle.eager_schedule.proofs.Counts.{few-replies, few-requests}

module _ (sizes : Sizes) (state : State) where
  -- of a kind that no line has there is none
  none-of : (test : Content → Bool) (ms : List Msg) → ((line : ℕ) → many test (of_line line ms) ≡ 0) → kind test ms ≡ 0
  none-of test ms h = let s = spread {X = Unit {0}} (λ u. 0) (λ m. one_if (test m)) [] ms (λ line. let e = h line in omega arith) in omega arith

  -- of the line that a node has begun there is one message at most
  of-begun : (n : ℕ) (test : Content → Bool) (ms : List Msg) → ((line : ℕ) → many test (of_line line ms) ≤ one_if (is_outstanding (want_on sizes (state.share n).want line))) → kind test ms ≤ 1
  of-begun n test ms h =
      let s = spread (λ u. 1) (λ m. one_if (test m)) (begun_lines sizes (state.share n).want) ms (λ line. let a = h line in let b = begun-wanted sizes (state.share n).want line in omega arith) in
      let o = begun-one sizes (state.share n).want in
      omega arith

  -- of each pending line of a home there is one message at most
  of-pending : (n : ℕ) (test : Content → Bool) (ms : List Msg) → ((line : ℕ) → many test (of_line line ms) ≤ cond (n == home_of sizes line) (one_if (is_pending (header_of sizes (state.share (home_of sizes line)) line))) 0) → kind test ms ≤ pending_lines (state.share n)
  of-pending n test ms h = spread (λ k. one_if (is_pending k)) (λ m. one_if (test m)) (fin.entries (state.share n).headers) ms (λ line. at line (n == home_of sizes line) refl (h line))
    where
      at : (line : ℕ) (c : Bool) → (n == home_of sizes line) ≡ c → many test (of_line line ms) ≤ cond c (one_if (is_pending (header_of sizes (state.share (home_of sizes line)) line))) 0 →
          many test (of_line line ms) ≤ amount (λ k. one_if (is_pending k)) (find nat_cmp line (fin.entries (state.share n).headers))
      at line true e le =
          let same : home_of sizes line ≡ n = grind (arith, nat_tests) in
          let a = amount-header Unlinked sizes (state.share n) (λ k. one_if (is_pending k)) line refl in
          let g = fin.get-entries (state.share n).headers line in
          let le' : many test (of_line line ms) ≤ one_if (is_pending (header_of sizes (state.share n) line)) = subst (λ k. many test (of_line line ms) ≤ one_if (is_pending (header_of sizes (state.share k) line))) same le in
          rw (← g) (rw a le')
      at line false e le = omega arith

module _ (trace : Trace) (past : Past) (sound : IsEagerSound trace past) (bounded : IsBounded Unlinked trace.sizes past.state) (a b : ℕ) where
  abbrev sizes : Sizes
  sizes = trace.sizes

  abbrev state : State
  state = past.state

  request-length : length (state.lane a b Request) ≤ sizes.pending + 1 + sizes.evicts
  unfolding aged_line project
  request-length =
      let each = λ (line : ℕ). few-requests (home_of sizes line) (aged_line sizes past (sound.lines line).top line) (sound.lines line).good a b in
      let all = all-kinds (state.lane a b Request) in
      let departs = bounded.departs a b in
      let counted = departs-weighed (state.lane a b Request) in
      let asks = of-begun sizes state a is_ask (state.lane a b Request) (λ line. (each line).0) in
      let told = of-pending sizes state a is_told (state.lane a b Request) (λ line. (each line).1) in
      let answers = none-of sizes state is_answer (state.lane a b Request) (λ line. (each line).2) in
      let backs = none-of sizes state is_back (state.lane a b Request) (λ line. (each line).3) in
      let pending = bounded.pending a in
      omega arith

  reply-length : length (state.lane a b Reply) ≤ sizes.pending + 1
  unfolding aged_line project
  reply-length =
      let each = λ (line : ℕ). few-replies (home_of sizes line) (aged_line sizes past (sound.lines line).top line) (sound.lines line).good a b in
      let all = all-kinds (state.lane a b Reply) in
      let answers = of-begun sizes state b is_answer (state.lane a b Reply) (λ line. (each line).0) in
      let backs = of-pending sizes state b is_back (state.lane a b Reply) (λ line. (each line).1) in
      let asks = none-of sizes state is_ask (state.lane a b Reply) (λ line. (each line).2) in
      let told = none-of sizes state is_told (state.lane a b Reply) (λ line. (each line).3) in
      let departs = none-of sizes state is_departure (state.lane a b Reply) (λ line. (each line).4) in
      let pending = bounded.pending b in
      omega arith

pub bounded_lanes : (trace : Trace) (events : List Event) (past : Past) (src dst : ℕ) (class : Class) → 0 < trace.sizes.words → run trace events ≡ Some past → length (past.state.lane src dst class) ≤ lane_bound trace.sizes class
bounded_lanes trace events past src dst Request positive runs = request-length trace past (sound-run trace events past positive runs) (bounded-run trace events past runs).bounded src dst
bounded_lanes trace events past src dst Reply positive runs = reply-length trace past (sound-run trace events past positive runs) (bounded-run trace events past runs).bounded src dst
