-- A state of a run is at rest exactly where every lane is empty. A line that drains lists a node, and that node's Inv or its InvAck is under way; so a line with nothing under way doesn't drain, and it is as in the delayed core.
use Rattle.std.proofs.Common.{◌≡◌, ◌≢◌, ℕ, ◌<◌, Bool, true, false, ◌==◌, List, [], inl, inr, refl, arith, ap, sym, ◌∙◌, Some}
use Rattle.std.proofs.lemmas.Bool.{ne_eqb}
use Rattle.std.specs.List.{list_any}
use Rattle.std.specs.FinMap as fin
use Rattle.line_map.specs.Sizes.{home_of}
use Rattle.op_model.specs.declared.events.Class.{Class}
use Rattle.op_model.specs.declared.events.Class.TheVariants.{Reply, Request}
use Rattle.op_model.specs.declared.events.Event.{Event}
use Rattle.op_model.specs.Lines.{is_pending}
use Rattle.op_model.specs.Nodes.{listed}
use Rattle.op_model.specs.Run.Rest.{IsAtRest}
use Rattle.op_model.specs.Run.Weight.{IsClear, IsEmpty}
use Rattle.op_model.specs.Shares.{Trace, Unlinked, header_of}
use Rattle.op_model.proofs.Public.{eqb-self}
use Rattle.line_invariant.specs.Good.{IsGood, IsOnDuty, NoDuty, Recalled, answer_part, expected}
use Rattle.one_history.specs.Project.{of_line, project}
use Rattle.lane_bounds.proofs.Public.{IsBounded}
use Rattle.link_refusals.proofs.Public.{Found, found}
use Rattle.node_range.specs.Range.{IsOfMachine}
use Rattle.rest_laws.proofs.Public.{all-clear, app-none, count-none, entry-own, header-found, none-begun}
use Rattle.rest_laws.proofs.Public.{quiet-header, quiet-want, silent-duty, some-listed}
use Rattle.eager_model.specs.Good.{IsDraining, IsEagerGood, draining_role}
use Rattle.eager_model.specs.Line.{AgedLine}
use Rattle.eager_model.specs.Runs.{Past, run}
use Rattle.eager_history.specs.Project.{aged_line}
use Rattle.eager_history.specs.Sound.{IsEagerSound}
use Rattle.eager_history.proofs.Public.{sound-run}
use Rattle.eager_part.proofs.Public.{bounded-run, ranged-run}

module _ (home : ℕ) (line : AgedLine) (empty : (a b : ℕ) (class : Class) → line.line.lane a b class ≡ []) where
  module _ (drains : IsDraining home line) where
    silent : (a b : ℕ) (class : Class) → expected home drains.status a b class ≡ []
    silent a b class = sym (drains.lanes a b class) ∙ empty a b class

    no-duty : (n : ℕ) → n ≢ home → (drains.status n).duty ≡ NoDuty
    no-duty n far = silent-duty (drains.status n).duty (rw (ne_eqb n home far, eqb-self home) at (silent home n Request)) (app-none (answer_part n (drains.status home).carrier) _ (rw (eqb-self home) at (silent n home Reply))).1

    -- a listed node has its Inv or its InvAck under way
    never-quiet : ⊥
    never-quiet =
        let has = some-listed line.line.header.list (let some = drains.header.some in let due = drains.header.due in omega arith) in
        let far : has.0 ≢ home = (λ same. let n : true ≡ false = sym has.1 ∙ ap (listed line.line.header.list) same ∙ drains.unlisted in cc) in
        let other : has.0 ≢ drains.grantee = (λ same. let n : true ≡ false = sym has.1 ∙ ap (listed line.line.header.list) same ∙ drains.header.granted in cc) in
        called has.0 has.1 (ne_eqb has.0 drains.grantee other) (no-duty has.0 far) (drains.nodes has.0 far).duty
      where
        called : (n : ℕ) → listed line.line.header.list n ≡ true → (n == drains.grantee) ≡ false → (drains.status n).duty ≡ NoDuty → IsOnDuty (draining_role drains.grantee drains.holds n) (listed line.line.header.list n) (drains.status n).duty → ⊥
        called n lists apart none due = let t : IsOnDuty Recalled true NoDuty = rw (apart, lists, none) at due in let d : true ≡ false = t in cc

  -- a line with nothing under way
  pub quiet-good : IsEagerGood home line → IsGood home line.line
  quiet-good good = elim good.stands [ inl settled ↦ settled.good | inr drains ↦ absurd (never-quiet drains) ]

module _ (trace : Trace) (past : Past) (sound : IsEagerSound trace past) (empty : IsEmpty past.state) where
  abbrev line_at : ℕ → AgedLine
  line_at line = aged_line trace.sizes past (sound.lines line).top line

  pub none-under : (line a b : ℕ) (class : Class) → (line_at line).line.lane a b class ≡ []
  unfolding aged_line project
  none-under line a b class = ap (of_line line) (empty a b class)

  -- each line is as in the delayed core
  pub good-at : (line : ℕ) → IsGood (home_of trace.sizes line) (line_at line).line
  good-at line = quiet-good (home_of trace.sizes line) (line_at line) (none-under line) (sound.lines line).good

  pub idle : (line : ℕ) → is_pending (header_of trace.sizes (past.state.share (home_of trace.sizes line)) line) ≡ false
  unfolding aged_line project
  idle line = quiet-header (home_of trace.sizes line) (line_at line).line (good-at line) (none-under line)

  pub rests : IsBounded Unlinked trace.sizes past.state → IsAtRest past.state
  unfolding aged_line project
  rests bounded =
      record {
        lanes = empty;
        wants = λ n. none-begun trace.sizes (past.state.share n).want (λ line. quiet-want (home_of trace.sizes line) (line_at line).line (good-at line) (none-under line) n);
        idle = λ n. count-none is_pending (fin.entries (past.state.share n).headers) (none-pending n (list_any (λ e. is_pending e.1) (fin.entries (past.state.share n).headers)) refl);
      }
    where
      none-pending : (n : ℕ) (c : Bool) → list_any (λ e. is_pending e.1) (fin.entries (past.state.share n).headers) ≡ c → c ≡ false
      none-pending n false e = refl
      none-pending n true e =
          let f : Found is_pending (fin.entries (past.state.share n).headers) = found is_pending (fin.entries (past.state.share n).headers) (fin.entries_sorted (past.state.share n).headers) e in
          let at = fin.get-entries (past.state.share n).headers f.0 ∙ f.2 in
          let here = entry-own trace.sizes (past.state.share n) n (bounded.own n) f.0 f.1 at in
          let has = ap (λ k. header_of trace.sizes (past.state.share k) f.0) here ∙ header-found trace.sizes (past.state.share n) f.0 f.1 at in
          sym f.3 ∙ ap is_pending (sym has) ∙ idle f.0

module _ (trace : Trace) (events : List Event) (past : Past) where
  pub resting : 0 < trace.sizes.words → run trace events ≡ Some past → IsEmpty past.state → IsAtRest past.state
  resting positive runs empty = rests trace past (sound-run trace events past positive runs) empty (bounded-run trace events past runs).bounded

  pub resting_clear : IsOfMachine trace → 0 < trace.sizes.words → run trace events ≡ Some past → IsClear trace.sizes past.state → IsAtRest past.state
  resting_clear all positive runs clear = resting positive runs (all-clear trace.sizes past.state clear (ranged-run trace all events past runs).ranged)
