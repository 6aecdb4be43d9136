-- A run whose state the parts make goes on by each event that a part's own step doesn't refuse: one event more of a run is one step more, and by the law of parts that step isn't refused.
use Rattle.std.proofs.Common.{◌≡◌, ℕ, List, [], ◌∷◌, ◌++◌, refl, ap, ◌∙◌, Option, Some, None, Result, Ok, Err}
use Rattle.op_model.specs.declared.events.Cause.{Cause}
use Rattle.op_model.specs.declared.events.Event.{Event}
use Rattle.op_model.specs.Shares.{Charge, State, Trace, program}
use Rattle.op_model.specs.Events.Node.{map_ok}
use Rattle.op_model.specs.Events.Step.{Done, effect, after, and_then, put_at, step}
use Rattle.op_model.specs.Run.Runs.{Past, past_after, run_from, run, start}
use Rattle.op_model.specs.Parts.Part.{Part}
use Rattle.op_model.specs.Parts.OwnStep.{own_step}
use Rattle.op_model.specs.Parts.Composition.{compose, IsReady}
use Rattle.node_parts.proofs.Law.{law_of_parts}

-- a run that goes on to this state by one event more
abbrev pub GoesOn : Option Past → State → Type 0
GoesOn ran state = (next : Past) × (ran ≡ Some next) × (next.state ≡ state)

one_more : (charge : Charge) (trace : Trace) (from past : Past) (events : List Event) (event : Event) (state : State) → run_from charge trace from events ≡ Some past → step charge trace.sizes (program trace) past.state event ≡ Ok state → GoesOn (run_from charge trace from (events ++ event ∷ [])) state
one_more charge trace from past [] event state ran goes =
    let same : from ≡ past = cc in
    here (effect charge trace.sizes (program trace) from.state event) (ap (λ p. step charge trace.sizes (program trace) p.state event) same ∙ goes)
  where
    here : (r : Result Done Cause) → map_ok (after from.state) r ≡ Ok state → GoesOn (and_then r (λ done. Some (past_after trace.sizes from done))) state
    here (Ok done) e = (past_after trace.sizes from done, refl, let d : ◌≡◌ {A = Result State Cause} (Ok (after from.state done)) (Ok state) = e in cc)
    here (Err cause) e = absurd (let d : ◌≡◌ {A = Result State Cause} (Err cause) (Ok state) = e in cc)
one_more charge trace from past (first ∷ events) event state ran goes = here (effect charge trace.sizes (program trace) from.state first) ran (λ next more. one_more charge trace next past events event state more goes)
  where
    here : (r : Result Done Cause) → and_then r (λ done. run_from charge trace (past_after trace.sizes from done) events) ≡ Some past →
        ((next : Past) → run_from charge trace next events ≡ Some past → GoesOn (run_from charge trace next (events ++ event ∷ [])) state) →
        GoesOn (and_then r (λ done. run_from charge trace (past_after trace.sizes from done) (events ++ event ∷ []))) state
    here (Ok done) e rest = rest (past_after trace.sizes from done) e
    here (Err cause) e rest = absurd (let d : ◌≡◌ {A = Option Past} None (Some past) = e in cc)

pub run_goes_on : (charge : Charge) (trace : Trace) (events : List Event) (past : Past) (parts : ℕ → Part) (node : ℕ) (event : Event) (after : Part) → run charge trace events ≡ Some past → past.state ≡ compose parts → IsReady trace.sizes (program trace) parts node → own_step charge (parts node) event ≡ Some after →
    GoesOn (run charge trace (events ++ event ∷ [])) (compose (put_at parts node after))
run_goes_on charge trace events past parts node event after ran made ready own =
    one_more charge trace (start trace.sizes) past events event (compose (put_at parts node after)) ran
    (ap (λ s. step charge trace.sizes (program trace) s event) made ∙ law_of_parts charge trace.sizes (program trace) parts node ready event after own)
