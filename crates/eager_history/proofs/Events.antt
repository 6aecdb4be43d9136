-- Each event of the eager machine keeps what holds of it.
use Rattle.std.proofs.Common.{◌≡◌, ℕ, ◌<◌, List, [], ◌∷◌, refl, ap, subst, Option, Some, None, Result, Ok, Err}
use Rattle.line_map.specs.Sizes.{Sizes, home_of}
use Rattle.op_model.specs.Events.Node.{EvictLine, HitNext, Input, IssueNext, NodeOutcome, ReclaimLine, TakeFrom, by_row, hit_next, map_ok}
use Rattle.op_model.specs.Events.Node as delayed
use Rattle.op_model.specs.Events.Step.{Off, has_room, none_off, one_off}
use Rattle.op_model.specs.Shares.{Share, Trace, program}
use Rattle.op_model.proofs.Public.{err-ok}
use Rattle.line_invariant.specs.Types.{LaneEmpty}
use Rattle.eager_model.specs.Types.{Cause, Class, Event, Evict, Hit, Issue, Msg, Reclaim, Request, Take, VictimUnasked}
use Rattle.eager_model.specs.Node.{aged, issue_next, local}
use Rattle.eager_model.specs.Runs.{Past, past_after}
use Rattle.eager_model.specs.Step.{AgedDone, and_answer, answer, effect, first_age, front}
use Rattle.eager_history.specs.Sound.{IsEagerSound}
use Rattle.eager_history.proofs.Locals.{Keeps, keeps-next, keeps-hit, keeps-issue, keeps-evict, keeps-reclaim}
use Rattle.eager_history.proofs.Takes.{keeps-message}

module _ (trace : Trace) (positive : 0 < trace.sizes.words) (past : Past) (sound : IsEagerSound trace past) where
  abbrev sizes : Sizes
  sizes = trace.sizes

  abbrev share : ℕ → Share
  share node = past.state.share node

  keeps-local : (node : ℕ) (input : Input) → ((src : ℕ) (m : Msg) (victim : Option ℕ) → input ≡ TakeFrom src m victim → ⊥) → Keeps trace positive past sound node input (local sizes node (program trace node) (share node) input)
  unfolding local delayed.local
  keeps-local node HitNext apart = keeps-next trace positive past sound node HitNext (hit_next sizes node (share node)) (keeps-hit trace positive past sound node)
  keeps-local node IssueNext apart = keeps-next trace positive past sound node IssueNext (issue_next sizes node (share node)) (keeps-issue trace positive past sound node)
  keeps-local node (EvictLine line kind room) apart = keeps-evict trace positive past sound node line kind room
  keeps-local node (TakeFrom src m victim) apart = absurd (apart src m victim refl)
  keeps-local node (ReclaimLine line) apart = keeps-reclaim trace positive past sound node line

  abbrev Holds : Result AgedDone Cause → Type 0
  Holds r = (d : AgedDone) → r ≡ Ok d → IsEagerSound trace (past_after sizes past d)

  acts : (node : ℕ) (off : Off) (input : Input) (at : ℕ) (r : Result NodeOutcome Cause) →
      ((o : NodeOutcome) → r ≡ Ok o → IsEagerSound trace (past_after sizes past (record { node = node; off = off; did = aged sizes node (share node) (past.ages.node node) input at o }))) →
      Holds (map_ok (λ out. record { node = node; off = off; did = aged sizes node (share node) (past.ages.node node) input at out }) r)
  acts node off input at (Ok o) keeps d e =
      let is : ◌≡◌ {A = AgedDone} (record { node = node; off = off; did = aged sizes node (share node) (past.ages.node node) input at o }) d = cc in subst (λ y. IsEagerSound trace (past_after sizes past y)) is (keeps o refl)
  acts node off input at (Err c) keeps d e = absurd (let n : ◌≡◌ {A = Result AgedDone Cause} (Err c) (Ok d) = e in cc)

  takes : (src dst : ℕ) (class : Class) (victim : Option ℕ) (ms : List Msg) → past.state.lane src dst class ≡ ms → Holds (and_answer (front src dst class victim (past.ages.lane src dst class) ms) (answer sizes (program trace) past.state past.ages))
  unfolding local
  takes src dst class victim [] e = λ d is. absurd (let n : ◌≡◌ {A = Result AgedDone Cause} (Err LaneEmpty) (Ok d) = is in cc)
  takes src dst class None (m ∷ rest) e =
      acts dst (one_off src dst class) (TakeFrom src m None) (first_age (past.ages.lane src dst class)) (local sizes dst (program trace dst) (share dst) (TakeFrom src m None))
      (λ o is. let same : by_row sizes dst (share dst) _ _ ≡ o = cc in subst (λ y. IsEagerSound trace (past_after sizes past (record { node = dst; off = one_off src dst class; did = aged sizes dst (share dst) (past.ages.node dst) (TakeFrom src m None) (first_age (past.ages.lane src dst class)) y }))) same
      (keeps-message trace positive past sound src dst class m rest e))
  takes src dst class (Some victim) (m ∷ rest) e =
      acts dst (one_off src dst class) (TakeFrom src m (Some victim)) (first_age (past.ages.lane src dst class)) (local sizes dst (program trace dst) (share dst) (TakeFrom src m (Some victim))) (λ o is. absurd (err-ok _ o is))

  pub keeps-event : (event : Event) → Holds (effect sizes (program trace) past.state past.ages event)
  keeps-event (Hit node) = acts node none_off HitNext 0 (local sizes node (program trace node) (share node) HitNext) (keeps-local node HitNext (λ src m victim e. cc))
  keeps-event (Issue node) = acts node none_off IssueNext 0 (local sizes node (program trace node) (share node) IssueNext) (keeps-local node IssueNext (λ src m victim e. cc))
  keeps-event (Evict node line kind) =
      let input : Input = EvictLine line kind (has_room sizes (past.state.lane node (home_of sizes line) Request)) in
      acts node none_off input 0 (local sizes node (program trace node) (share node) input) (keeps-local node input (λ src m victim e. cc))
  keeps-event (Take src dst class victim) = takes src dst class victim (past.state.lane src dst class) refl
  keeps-event (Reclaim line) = acts (home_of sizes line) none_off (ReclaimLine line) 0 (local sizes (home_of sizes line) (program trace (home_of sizes line)) (share (home_of sizes line)) (ReclaimLine line)) (keeps-local (home_of sizes line) (ReclaimLine line) (λ src m victim e. cc))

-- a message in front of a lane is taken, where no victim is given
module _ (trace : Trace) (past : Past) (src dst : ℕ) (class : Class) (m : Msg) (rest : List Msg) (here : past.state.lane src dst class ≡ m ∷ rest) where
  pub take-done : (done : AgedDone) × (effect trace.sizes (program trace) past.state past.ages (Take src dst class None) ≡ Ok done)
  unfolding local
  take-done = (_, ap (λ ms. and_answer (front src dst class None (past.ages.lane src dst class) ms) (answer trace.sizes (program trace) past.state past.ages)) here)

  pub take-refused : (victim : ℕ) → effect trace.sizes (program trace) past.state past.ages (Take src dst class (Some victim)) ≡ Err VictimUnasked
  unfolding local
  take-refused victim = ap (λ ms. and_answer (front src dst class (Some victim) (past.ages.lane src dst class) ms) (answer trace.sizes (program trace) past.state past.ages)) here
