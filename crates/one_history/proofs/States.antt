-- The states of a run with its history are those of the run without it, and a run of one event more is one step more: both by
-- induction on the events, since an event is refused in the one where it is in the other.
use Rattle.std.proofs.Common.{◌≡◌, List, [], ◌∷◌, ◌++◌, refl, Some, Result, Ok, Err}
use Rattle.line_map.specs.Sizes.{Sizes}
use Rattle.op_model.specs.declared.events.Cause.{Cause}
use Rattle.op_model.specs.declared.events.Event.{Event}
use Rattle.op_model.specs.Events.Node.{map_ok}
use Rattle.op_model.specs.Events.Step.{Done, Programs, after, and_then, effect, states, step, then_step, to_option}
use Rattle.op_model.specs.Run.Runs.{Past, past_after, run_from, state_of}
use Rattle.op_model.specs.Shares.{Charge, State, Trace, program}

pub states_of : (charge : Charge) (trace : Trace) (past : Past) (events : List Event) → states charge trace.sizes (program trace) past.state events ≡ state_of (run_from charge trace past events)
states_of charge trace past [] = refl
states_of charge trace past (event ∷ events) = go (effect charge trace.sizes (program trace) past.state event) (λ next. states_of charge trace next events)
  where
    go : (r : Result Done Cause) → ((next : Past) → states charge trace.sizes (program trace) next.state events ≡ state_of (run_from charge trace next events)) →
        and_then (map_ok (after past.state) r) (λ next. states charge trace.sizes (program trace) next events) ≡ state_of (and_then r (λ done. run_from charge trace (past_after trace.sizes past done) events))
    go (Ok done) rest = rest (past_after trace.sizes past done)
    go (Err cause) rest = refl

pub states_snoc : (charge : Charge) (sizes : Sizes) (programs : Programs) (state : State) (events : List Event) (event : Event) → states charge sizes programs state (events ++ event ∷ []) ≡ then_step charge sizes programs event (states charge sizes programs state events)
states_snoc charge sizes programs state [] event = last (step charge sizes programs state event)
  where
    last : (r : Result State Cause) → and_then r (λ next. Some next) ≡ to_option r
    last (Ok next) = refl
    last (Err cause) = refl
states_snoc charge sizes programs state (first ∷ events) event = go (step charge sizes programs state first) (λ next. states_snoc charge sizes programs next events event)
  where
    go : (r : Result State Cause) → ((next : State) → states charge sizes programs next (events ++ event ∷ []) ≡ then_step charge sizes programs event (states charge sizes programs next events)) →
        and_then r (λ next. states charge sizes programs next (events ++ event ∷ [])) ≡ then_step charge sizes programs event (and_then r (λ next. states charge sizes programs next events))
    go (Ok next) rest = rest next
    go (Err cause) rest = refl
