-- Every event is what one node of the machine does with an input, and what it takes is the front of a lane.
-- An operation that a node has next is at a node of the machine, a copy is at one, so is a line that lists anybody, and a lane that isn't
-- empty ends at one.
use Rattle.std.proofs.Common.{◌≡◌, ◌⊎◌, inl, inr, ℕ, ◌<◌, ◌≤◌, Bool, true, false, cond, ◌==◌, ◌&&◌, not, slice_get, List, [], ◌∷◌, refl, arith, sym, ap, subst, ◌∙◌, Option, Some, None, Result, Ok, Err}
use Rattle.std.proofs.lemmas.Bool.{cases_lt}
use Rattle.std.proofs.lemmas.Bool.Decides.{nat_tests}
use Rattle.line_map.specs.Sizes.{Sizes, all_words, home_of}
use Rattle.op_model.specs.declared.events.Cause.{Cause}
use Rattle.op_model.specs.declared.events.Cause.TheVariants.{LaneEmpty, LaneGate, NoOp}
use Rattle.op_model.specs.declared.events.Class.{Class}
use Rattle.op_model.specs.declared.events.Class.TheVariants.{Request}
use Rattle.op_model.specs.declared.events.Event.{Event}
use Rattle.op_model.specs.declared.events.Event.TheVariants.{Evict, Hit, Issue, Reclaim, Take}
use Rattle.op_model.specs.declared.events.EvictKind.{EvictKind}
use Rattle.op_model.specs.declared.messages.Msg.{Msg}
use Rattle.op_model.specs.declared.operations.Op.{Op}
use Rattle.op_model.specs.Events.Node.{EvictLine, HitNext, Input, IssueNext, NodeOutcome, ReclaimLine, TakeFrom, bind, by_row, departs, hit_next, issue_next, local, map_ok, with_next}
use Rattle.op_model.specs.Events.Step.{Done, Off, act, effect, has_room, none_off, one_off, take_front}
use Rattle.op_model.specs.Lines.{Outcome, is_empty}
use Rattle.op_model.specs.Nodes.{count}
use Rattle.op_model.specs.Shares.{Charge, State, Trace, copy_of, header_of, is_linked, line_share, program, room_of}
use Rattle.op_model.specs.Tables.Processor.{evict, holds_link, reclaim}
use Rattle.node_range.specs.Range.{IsOfMachine, IsRanged}
use Rattle.node_range.proofs.Public.{in-program}
use Rattle.message_range.specs.Fitting.{AreOnWords}
use Rattle.message_range.proofs.Acts.{evicts-copy, reclaims-holder}

-- the operations of a node's program are on words of the machine, and where it has one it is a node of the machine
pub program-of : (trace : Trace) → IsOfMachine trace → (node : ℕ) → AreOnWords trace.sizes (program trace node)
program-of trace all node i op is = (in-program (λ o. o.word < all_words trace.sizes) node trace.ops i op all.words is).0

-- what an event gives to its node: for a Take the front of a lane, for a Reclaim a line of its own
abbrev pub IsGiven : Sizes → State → ℕ → Input → Type 0
IsGiven sizes state node HitNext = Unit {0}
IsGiven sizes state node IssueNext = Unit {0}
IsGiven sizes state node (EvictLine line kind room) = Unit {0}
IsGiven sizes state node (TakeFrom src m victim) = (class : Class) × (rest : List Msg) × (state.lane src node class ≡ m ∷ rest)
IsGiven sizes state node (ReclaimLine line) = node ≡ home_of sizes line

pub record IsDone (charge : Charge) (trace : Trace) (state : State) (d : Done) : Type 0 where
  pub input : Input
  pub does : local charge trace.sizes d.node (program trace d.node) (state.share d.node) input ≡ Ok d.out
  pub given : IsGiven trace.sizes state d.node input

module _ (charge : Charge) (trace : Trace) (state : State) where
  abbrev sizes : Sizes
  sizes = trace.sizes

  abbrev Gives : Result Done Cause → Type 0
  Gives r = (d : Done) → r ≡ Ok d → IsDone charge trace state d

  acts : (node : ℕ) (off : Off) (input : Input) → IsGiven sizes state node input → (r : Result NodeOutcome Cause) → local charge sizes node (program trace node) (state.share node) input ≡ r → Gives (act node off r)
  acts node off input given (Err c) is d e = absurd (let n : ◌≡◌ {A = Result Done Cause} (Err c) (Ok d) = e in cc)
  acts node off input given (Ok out) is d e =
      let same : ◌≡◌ {A = Done} (record { node = node; out = out; off = off }) d = cc in
      subst (IsDone charge trace state) same (record { input = input; does = is; given = given })

  fronts : (src dst : ℕ) (class : Class) (victim : Option ℕ) (messages : List Msg) → state.lane src dst class ≡ messages → Gives (take_front charge sizes (program trace) state src dst class victim messages)
  fronts src dst class victim [] is d e = absurd (let n : ◌≡◌ {A = Result Done Cause} (Err LaneEmpty) (Ok d) = e in cc)
  fronts src dst class victim (m ∷ rest) is d e = acts dst (one_off src dst class) (TakeFrom src m victim) (class, rest, is) _ refl d e

  pub done-by : (event : Event) → Gives (effect charge sizes (program trace) state event)
  done-by (Hit node) d e = acts node none_off HitNext tt _ refl d e
  done-by (Issue node) d e = acts node none_off IssueNext tt _ refl d e
  done-by (Evict node line kind) d e = acts node none_off (EvictLine line kind (has_room sizes (state.lane node (home_of sizes line) Request))) tt _ refl d e
  done-by (Take src dst class victim) d e = fronts src dst class victim (state.lane src dst class) refl d e
  done-by (Reclaim line) d e = acts (home_of sizes line) none_off (ReclaimLine line) refl _ refl d e

-- what acts is a node of the machine
module _ (charge : Charge) (trace : Trace) (all : IsOfMachine trace) (state : State) (ranged : IsRanged trace.sizes state) (node : ℕ) where
  abbrev N : ℕ
  N = trace.sizes.nodes

  has-next : (f : Op → Result NodeOutcome Cause) (o : Option Op) → slice_get (program trace node) (state.share node).place ≡ o → (out : NodeOutcome) → with_next (state.share node) o f ≡ Ok out → node < N
  has-next f None is out e = absurd (let n : ◌≡◌ {A = Result NodeOutcome Cause} (Err NoOp) (Ok out) = e in cc)
  has-next f (Some op) is out e =
      let at = in-program (λ o. o.node < N) node trace.ops (state.share node).place op all.nodes is in
      subst (λ k. k < N) at.1 at.0

  pub filled : (src : ℕ) (class : Class) (m : Msg) (rest : List Msg) → state.lane src node class ≡ m ∷ rest → (src < N) × (node < N)
  filled src class m rest is = go (cases_lt src N) (cases_lt node N)
    where
      empty : state.lane src node class ≡ [] → ⊥
      empty none = let n : [] ≡ m ∷ rest = sym none ∙ is in cc

      go : (src < N) ⊎ (N ≤ src) → (node < N) ⊎ (N ≤ node) → (src < N) × (node < N)
      go (inl a) (inl b) = (a, b)
      go (inr a) b = absurd (empty (ranged.lanes src node class (inl a)))
      go a (inr b) = absurd (empty (ranged.lanes src node class (inr b)))

  has-copy : (line : ℕ) → is_empty (copy_of (state.share node) line) ≡ false → node < N
  has-copy line full = go (cases_lt node N)
    where
      go : (node < N) ⊎ (N ≤ node) → node < N
      go (inl a) = a
      go (inr a) = absurd (let n : true ≡ false = sym (ap is_empty (ranged.copies node line (inl a))) ∙ full in cc)

  evicts : (line : ℕ) (kind : EvictKind) (gate : Bool) (r : Result Outcome Cause) → evict node (home_of trace.sizes line) kind (line_share trace.sizes (state.share node) line) ≡ r → (out : NodeOutcome) →
      bind r (λ outcome. cond (departs (node == home_of trace.sizes line) kind && not gate) (Err LaneGate) (Ok (by_row trace.sizes node (state.share node) line outcome))) ≡ Ok out → node < N
  evicts line kind gate (Err c) is out e = absurd (let n : ◌≡◌ {A = Result NodeOutcome Cause} (Err c) (Ok out) = e in cc)
  evicts line kind gate (Ok o) is out e = has-copy line (evicts-copy node (home_of trace.sizes line) kind (line_share trace.sizes (state.share node) line) o is)

  reclaims : (line : ℕ) → node ≡ home_of trace.sizes line → (r : Result Outcome Cause) → reclaim (room_of charge trace.sizes (state.share node)) (line_share trace.sizes (state.share node) line) ≡ r → (out : NodeOutcome) →
      map_ok (by_row trace.sizes node (state.share node) line) r ≡ Ok out → node < N
  reclaims line home (Err c) is out e = absurd (let n : ◌≡◌ {A = Result NodeOutcome Cause} (Err c) (Ok out) = e in cc)
  reclaims line home (Ok o) is out e = go (cases_lt node N)
    where
      holds : holds_link (room_of charge trace.sizes (state.share node)) (header_of trace.sizes (state.share node) line) ≡ true
      holds = reclaims-holder (room_of charge trace.sizes (state.share node)) (line_share trace.sizes (state.share node) line) o is

      several : (linked : Bool) (n : ℕ) → n ≡ 0 → (linked && not (n == 0) && not (n == 1)) ≡ true → ⊥
      several linked n e f = grind (arith, nat_tests)

      go : (node < N) ⊎ (N ≤ node) → node < N
      go (inl a) = a
      go (inr a) =
          let none : count (header_of trace.sizes (state.share node) line).list ≡ 0 = ap (λ k. count (header_of trace.sizes (state.share k) line).list) home ∙ ranged.strange line (subst (λ k. N ≤ k) home a) in
          absurd (several (is_linked charge) (count (header_of trace.sizes (state.share node) line).list) none holds)

  pub acts-in : (input : Input) (out : NodeOutcome) → local charge trace.sizes node (program trace node) (state.share node) input ≡ Ok out → IsGiven trace.sizes state node input → node < N
  unfolding local
  acts-in HitNext out e given = has-next (hit_next trace.sizes node (state.share node)) _ refl out e
  acts-in IssueNext out e given = has-next (issue_next charge trace.sizes node (state.share node)) _ refl out e
  acts-in (EvictLine line kind gate) out e given = evicts line kind gate (evict node (home_of trace.sizes line) kind (line_share trace.sizes (state.share node) line)) refl out e
  acts-in (TakeFrom src m victim) out e given = (filled src given.0 m given.1 given.2).1
  acts-in (ReclaimLine line) out e given = reclaims line given (reclaim (room_of charge trace.sizes (state.share node)) (line_share trace.sizes (state.share node) line)) refl out e
