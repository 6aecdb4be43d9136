-- How many messages a lane holds: each is of one kind, and each kind has its bound. The lane is spread over its lines: over the one
-- that a node has begun, or over the pending lines of a home.
use Rattle.std.proofs.Common.{◌≡◌, ℕ, ◌+◌, ◌≤◌, ◌<◌, Bool, true, false, cond, ◌==◌, List, [], ◌∷◌, length, refl, arith, subst, Option, Some, None}
use Rattle.std.proofs.lemmas.Bool.Decides.{nat_tests}
use Rattle.std.specs.Ordering.{nat_cmp}
use Rattle.std.specs.FinMap as fin
use Rattle.std.specs.FinMap.{find}
use Rattle.line_map.specs.Sizes.{Sizes, home_of, line_of}
use Rattle.op_model.specs.Events.Step.{departures, is_departure}
use Rattle.op_model.specs.Lines.{is_pending, is_outstanding}
use Rattle.op_model.specs.Messages.{Content, FAck, FwdGet, FwdGetX, Get, GetX, Inv, InvAck, Nak, Nakc, Put, PutX, Rpl, ShWb, Wb, msg_content}
use Rattle.op_model.specs.Run.Bounds.{lane_bound, reply_bound, request_bound}
use Rattle.op_model.specs.Run.Runs.{Past, run}
use Rattle.op_model.specs.Shares.{Charge, State, Trace, header_of, pending_lines, want_on}
use Rattle.op_model.specs.declared.events.Class.TheVariants.{Reply, Request}
use Rattle.op_model.specs.declared.events.Class.{Class}
use Rattle.op_model.specs.declared.events.Event.{Event}
use Rattle.op_model.specs.declared.messages.Msg.{Msg}
use Rattle.op_model.specs.declared.state.Want.{Want}
use Rattle.one_history.specs.Project.{line_words, of_line, project}
use Rattle.one_history.specs.Sound.{IsSound, answered_of}
use Rattle.lane_bounds.proofs.Homes.{amount-header, one_if}
use Rattle.lane_bounds.proofs.Kept.{IsBounded}
use Rattle.lane_bounds.proofs.Lanes.{departs-weighed}
use Rattle.lane_bounds.proofs.Runs.{bounded-run}
use Rattle.lane_bounds.proofs.Spelled.{is_answer, is_ask, is_back, is_told, many, reply-kinds, request-kinds}
use Rattle.lane_bounds.proofs.Sums.{amount, over, spread, weighed, weighed-cons}

-- how many messages of a lane are of a kind
abbrev pub kind : (Content → Bool) → List Msg → ℕ
kind test messages = weighed (λ m. one_if (test m)) messages

one-kind : (content : Content) → one_if (is_departure content) + one_if (is_ask content) + one_if (is_told content) + one_if (is_answer content) + one_if (is_back content) ≡ 1
one-kind Get = refl
one-kind GetX = refl
one-kind (FwdGet r) = refl
one-kind (FwdGetX r) = refl
one-kind Inv = refl
one-kind (Wb words) = refl
one-kind Rpl = refl
one-kind (Put words) = refl
one-kind (PutX words) = refl
one-kind (Nak cause) = refl
one-kind InvAck = refl
one-kind (ShWb words) = refl
one-kind FAck = refl
one-kind Nakc = refl

-- each message is of one kind
pub all-kinds : (ms : List Msg) → length ms ≡ kind is_departure ms + kind is_ask ms + kind is_told ms + kind is_answer ms + kind is_back ms
all-kinds [] = refl
all-kinds (m ∷ ms) =
    let ih = all-kinds ms in
    let one = one-kind (msg_content m) in
    let a = weighed-cons (λ x. one_if (is_departure x)) m ms in
    let b = weighed-cons (λ x. one_if (is_ask x)) m ms in
    let c = weighed-cons (λ x. one_if (is_told x)) m ms in
    let d = weighed-cons (λ x. one_if (is_answer x)) m ms in
    let e = weighed-cons (λ x. one_if (is_back x)) m ms in
    omega arith

abbrev one_line : ℕ → List (ℕ × Unit {0})
one_line line = (line, tt) ∷ []

-- the line that a node has begun
pub begun_lines : Sizes → Option Want → List (ℕ × Unit {0})
begun_lines sizes None = []
begun_lines sizes (Some want) = one_line (line_of sizes want.op.word)

pub begun-one : (sizes : Sizes) (want : Option Want) → over (λ u. 1) (begun_lines sizes want) ≤ 1
unfolding begun_lines
begun-one sizes None = omega arith
begun-one sizes (Some want) = omega arith

pub begun-wanted : (sizes : Sizes) (want : Option Want) (line : ℕ) → one_if (is_outstanding (want_on sizes want line)) ≤ amount (λ u. 1) (find nat_cmp line (begun_lines sizes want))
unfolding begun_lines
begun-wanted sizes None line = omega arith
begun-wanted sizes (Some want) line = at (line_of sizes want.op.word)
  where
    at : (its : ℕ) → one_if (is_outstanding (cond (its == line) (Some want) None)) ≤ amount (λ u. 1) (find nat_cmp line (one_line its))
    at its = grind (arith, nat_tests)

module _ (charge : Charge) (trace : Trace) (past : Past) (sound : IsSound trace past) where
  abbrev sizes : Sizes
  sizes = trace.sizes

  abbrev state : State
  state = past.state

  -- of a kind that no line has there is none
  none-of : (test : Content → Bool) (ms : List Msg) → ((line : ℕ) → many test (of_line line ms) ≡ 0) → kind test ms ≡ 0
  none-of test ms h = let s = spread {X = Unit {0}} (λ u. 0) (λ m. one_if (test m)) [] ms (λ line. let e = h line in omega arith) in omega arith

  -- of the line that a node has begun there is one message at most
  of-begun : (n : ℕ) (test : Content → Bool) (ms : List Msg) → ((line : ℕ) → many test (of_line line ms) ≤ one_if (is_outstanding (want_on sizes (state.share n).want line))) → kind test ms ≤ 1
  of-begun n test ms h =
      let s = spread (λ u. 1) (λ m. one_if (test m)) (begun_lines sizes (state.share n).want) ms (λ line. let a = h line in let b = begun-wanted sizes (state.share n).want line in omega arith) in
      let o = begun-one sizes (state.share n).want in
      omega arith

  -- of each pending line of a home there is one message at most
  of-pending : (n : ℕ) (test : Content → Bool) (ms : List Msg) → ((line : ℕ) → many test (of_line line ms) ≤ cond (n == home_of sizes line) (one_if (is_pending (header_of sizes (state.share (home_of sizes line)) line))) 0) → kind test ms ≤ pending_lines (state.share n)
  of-pending n test ms h = spread (λ k. one_if (is_pending k)) (λ m. one_if (test m)) (fin.entries (state.share n).headers) ms (λ line. at line (n == home_of sizes line) refl (h line))
    where
      at : (line : ℕ) (c : Bool) → (n == home_of sizes line) ≡ c → many test (of_line line ms) ≤ cond c (one_if (is_pending (header_of sizes (state.share (home_of sizes line)) line))) 0 →
          many test (of_line line ms) ≤ amount (λ k. one_if (is_pending k)) (find nat_cmp line (fin.entries (state.share n).headers))
      at line true e le =
          let same : home_of sizes line ≡ n = grind (arith, nat_tests) in
          let a = amount-header charge sizes (state.share n) (λ k. one_if (is_pending k)) line refl in
          let g = fin.get-entries (state.share n).headers line in
          let le' : many test (of_line line ms) ≤ one_if (is_pending (header_of sizes (state.share n) line)) = subst (λ k. many test (of_line line ms) ≤ one_if (is_pending (header_of sizes (state.share k) line))) same le in
          rw (← g) (rw a le')
      at line false e le = omega arith

  request-length : IsBounded charge sizes state → (a b : ℕ) → length (state.lane a b Request) ≤ sizes.pending + 1 + sizes.evicts
  unfolding project
  request-length bounded a b =
      let each = λ (line : ℕ). request-kinds (home_of sizes line) (project sizes state (line_words sizes past.served line) (answered_of sizes past line) line) (sound.lines line) a b in
      let all = all-kinds (state.lane a b Request) in
      let departs = bounded.departs a b in
      let counted = departs-weighed (state.lane a b Request) in
      let asks = of-begun a is_ask (state.lane a b Request) (λ line. (each line).0) in
      let told = of-pending a is_told (state.lane a b Request) (λ line. (each line).1) in
      let answers = none-of is_answer (state.lane a b Request) (λ line. (each line).2) in
      let backs = none-of is_back (state.lane a b Request) (λ line. (each line).3) in
      let pending = bounded.pending a in
      omega arith

  reply-length : IsBounded charge sizes state → (a b : ℕ) → length (state.lane a b Reply) ≤ sizes.pending + 1
  unfolding project
  reply-length bounded a b =
      let each = λ (line : ℕ). reply-kinds (home_of sizes line) (project sizes state (line_words sizes past.served line) (answered_of sizes past line) line) (sound.lines line) a b in
      let all = all-kinds (state.lane a b Reply) in
      let answers = of-begun b is_answer (state.lane a b Reply) (λ line. (each line).0) in
      let backs = of-pending b is_back (state.lane a b Reply) (λ line. (each line).1) in
      let asks = none-of is_ask (state.lane a b Reply) (λ line. (each line).2) in
      let told = none-of is_told (state.lane a b Reply) (λ line. (each line).3) in
      let departs = none-of is_departure (state.lane a b Reply) (λ line. (each line).4) in
      let pending = bounded.pending b in
      omega arith

module _ (charge : Charge) (trace : Trace) (events : List Event) (past : Past) (a b : ℕ) (positive : 0 < trace.sizes.words) (runs : run charge trace events ≡ Some past) where
  pub bounded_requests : length (past.state.lane a b Request) ≤ request_bound trace.sizes
  bounded_requests = let both = bounded-run charge trace events past positive runs in request-length charge trace past both.0 both.1 a b

  pub bounded_departures : departures (past.state.lane a b Request) ≤ trace.sizes.evicts
  bounded_departures = (bounded-run charge trace events past positive runs).1.departs a b

  pub bounded_replies : length (past.state.lane a b Reply) ≤ reply_bound trace.sizes
  bounded_replies = let both = bounded-run charge trace events past positive runs in reply-length charge trace past both.0 both.1 a b

pub bounded_lanes : (charge : Charge) (trace : Trace) (events : List Event) (past : Past) (a b : ℕ) (class : Class) → 0 < trace.sizes.words → run charge trace events ≡ Some past → length (past.state.lane a b class) ≤ lane_bound trace.sizes class
bounded_lanes charge trace events past a b Request positive runs = bounded_requests charge trace events past a b positive runs
bounded_lanes charge trace events past a b Reply positive runs = bounded_replies charge trace events past a b positive runs
