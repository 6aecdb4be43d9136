-- A state of a run is at rest exactly where every lane is empty.
-- Nothing is under way of any line, so that no operation on it is begun and it isn't pending; and a home has headers of its own lines
-- alone, so that it has no pending one.
use Rattle.std.proofs.Common.{◌≡◌, ℕ, ◌<◌, ◌≤◌, Bool, true, false, cond, ◌==◌, ◌⊎◌, inl, inr, List, [], ◌∷◌, refl, arith, ap, sym, ◌∙◌, Option, Some, None}
use Rattle.std.proofs.lemmas.Bool.{cases_lt}
use Rattle.std.specs.List.{list_any}
use Rattle.std.specs.FinMap as fin
use Rattle.line_map.specs.Sizes.{Sizes, home_of, line_of}
use Rattle.op_model.specs.declared.events.Event.{Event}
use Rattle.op_model.specs.declared.state.Want.{Want}
use Rattle.op_model.specs.Lines.{is_pending}
use Rattle.op_model.specs.Run.Rest.{IsAtRest}
use Rattle.op_model.specs.Run.Runs.{Past, run}
use Rattle.op_model.specs.Run.Weight.{IsClear, IsEmpty}
use Rattle.op_model.specs.Shares.{Charge, Trace, State, header_of, want_on}
use Rattle.op_model.proofs.Public.{eqb-self}
use Rattle.one_history.specs.Project.{of_line, project, line_words}
use Rattle.one_history.specs.Sound.{IsSound, answered_of}
use Rattle.lane_bounds.proofs.Public.{IsBounded, bounded-run, one_if, over, over-cons}
use Rattle.link_refusals.proofs.Public.{Found, found}
use Rattle.node_range.specs.Range.{IsOfMachine, IsRanged}
use Rattle.node_range.proofs.Public.{ranged-run}
use Rattle.rest_laws.proofs.Links.{entry-own, header-found}
use Rattle.rest_laws.proofs.Quiet.{quiet-header, quiet-want}

pub count-none : {X : Type 0} (test : X → Bool) (es : List (ℕ × X)) → list_any (λ e. test e.1) es ≡ false → over (λ x. one_if (test x)) es ≡ 0
count-none test [] h = refl
count-none test (e ∷ es) h = let ih = count-none test es in let c = over-cons (λ x. one_if (test x)) e es in grind arith

pub none-begun : (sizes : Sizes) (want : Option Want) → ((line : ℕ) → want_on sizes want line ≡ None) → want ≡ None
none-begun sizes None h = refl
none-begun sizes (Some want) h = absurd (go (line_of sizes want.op.word == line_of sizes want.op.word) (eqb-self (line_of sizes want.op.word)) (h (line_of sizes want.op.word)))
  where
    go : (c : Bool) → c ≡ true → cond c (Some want) None ≡ None → ⊥
    go true e n = cc
    go false e n = cc

pub rests : (trace : Trace) (charge : Charge) (past : Past) → IsSound trace past → IsBounded charge trace.sizes past.state → IsEmpty past.state → IsAtRest past.state
unfolding project
rests trace charge past sound bounded empty =
    record {
      lanes = empty;
      wants = λ n. none-begun trace.sizes (past.state.share n).want (λ line. quiet-want (home_of trace.sizes line) (project trace.sizes past.state (line_words trace.sizes past.served line) (answered_of trace.sizes past line) line) (sound.lines line) (λ a b class. ap (of_line line) (empty a b class)) n);
      idle = λ n. count-none is_pending (fin.entries (past.state.share n).headers) (none-pending n (list_any (λ e. is_pending e.1) (fin.entries (past.state.share n).headers)) refl);
    }
  where
    idle : (line : ℕ) → is_pending (header_of trace.sizes (past.state.share (home_of trace.sizes line)) line) ≡ false
    idle line = quiet-header (home_of trace.sizes line) (project trace.sizes past.state (line_words trace.sizes past.served line) (answered_of trace.sizes past line) line) (sound.lines line) (λ a b class. ap (of_line line) (empty a b class))

    none-pending : (n : ℕ) (c : Bool) → list_any (λ e. is_pending e.1) (fin.entries (past.state.share n).headers) ≡ c → c ≡ false
    none-pending n false e = refl
    none-pending n true e =
        let f : Found is_pending (fin.entries (past.state.share n).headers) = found is_pending (fin.entries (past.state.share n).headers) (fin.entries_sorted (past.state.share n).headers) e in
        let at : fin.get (past.state.share n).headers f.0 ≡ Some f.1 = fin.get-entries (past.state.share n).headers f.0 ∙ f.2 in
        let here = entry-own trace.sizes (past.state.share n) n (bounded.own n) f.0 f.1 at in
        let has : header_of trace.sizes (past.state.share (home_of trace.sizes f.0)) f.0 ≡ f.1 = ap (λ k. header_of trace.sizes (past.state.share k) f.0) here ∙ header-found trace.sizes (past.state.share n) f.0 f.1 at in
        sym f.3 ∙ ap is_pending (sym has) ∙ idle f.0

pub resting : (charge : Charge) (trace : Trace) (events : List Event) (past : Past) → 0 < trace.sizes.words → run charge trace events ≡ Some past → IsEmpty past.state → IsAtRest past.state
resting charge trace events past positive runs empty = let both = bounded-run charge trace events past positive runs in rests trace charge past both.0 both.1 empty

-- a state with no message between its nodes, and none elsewhere, has none at all
pub all-clear : (sizes : Sizes) (state : State) → IsClear sizes state → IsRanged sizes state → IsEmpty state
all-clear sizes state clear ranged a b class = go (cases_lt a sizes.nodes) (cases_lt b sizes.nodes)
  where
    go : (a < sizes.nodes) ⊎ (sizes.nodes ≤ a) → (b < sizes.nodes) ⊎ (sizes.nodes ≤ b) → state.lane a b class ≡ []
    go (inl x) (inl y) = clear a b class x y
    go (inr x) y = ranged.lanes a b class (inl x)
    go x (inr y) = ranged.lanes a b class (inr y)

-- a run of a trace of its machine is at rest where no message is under way between the nodes of the machine
pub resting_clear : (charge : Charge) (trace : Trace) (events : List Event) (past : Past) → IsOfMachine trace → 0 < trace.sizes.words → run charge trace events ≡ Some past → IsClear trace.sizes past.state → IsAtRest past.state
resting_clear charge trace events past all positive runs clear =
    resting charge trace events past positive runs (all-clear trace.sizes past.state clear (ranged-run charge trace all events past positive runs))
