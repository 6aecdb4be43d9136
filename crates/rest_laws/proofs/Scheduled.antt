-- A delivery is a piece of every schedule that delivers first: each of its events is the schedule's next one at its place.
-- By induction on the events.
use Rattle.std.proofs.Common.{◌≡◌, ℕ, zero, suc, ◌<◌, List, [], ◌∷◌, length, take, refl, arith, ap, sym, ◌∙◌, Option, Some, None, option_map}
use Rattle.std.specs.List.{slice_get}
use Rattle.line_map.specs.Sizes.{Sizes}
use Rattle.op_model.specs.declared.events.Event.{Event}
use Rattle.op_model.specs.Events.Step.{and_then}
use Rattle.op_model.specs.Run.Runs.{Past, past_after, run_from}
use Rattle.op_model.specs.Run.Schedules.{Lane, first_busy, delivery}
use Rattle.op_model.specs.Shares.{Charge, State, Trace}
use Rattle.rest_laws.specs.Delivery.{IsDelivered, next_delivery}

-- a schedule takes a delivery step wherever there is one
abbrev pub DeliversFirst : Charge → Sizes → (State → Option Event) → Type 0
DeliversFirst charge sizes next = (state : State) (lane : Lane) → first_busy sizes state ≡ Some lane → next state ≡ Some (delivery charge sizes state lane)

next-is : (charge : Charge) (sizes : Sizes) (next : State → Option Event) → DeliversFirst charge sizes next → (state : State) (event : Event) → next_delivery charge sizes state ≡ Some event → next state ≡ Some event
next-is charge sizes next first state event is = go (first_busy sizes state) refl is
  where
    go : (o : Option Lane) → first_busy sizes state ≡ o → option_map (delivery charge sizes state) o ≡ Some event → next state ≡ Some event
    go None e n = absurd (let d : ◌≡◌ {A = Option Event} None (Some event) = n in cc)
    go (Some lane) e n = first state lane e ∙ n

pub scheduled : (charge : Charge) (trace : Trace) (next : State → Option Event) → DeliversFirst charge trace.sizes next → (past end : Past) (events : List Event) → IsDelivered charge trace past events end →
    (k : ℕ) (mid : Past) → run_from charge trace past (take k events) ≡ Some mid → k < length events → next mid.state ≡ slice_get events k
scheduled charge trace next first past end [] is k mid ran lt = absurd (omega arith)
scheduled charge trace next first past end (event ∷ events) is zero mid ran lt =
    let same : past ≡ mid = cc in
    ap (λ p. next p.state) (sym same) ∙ next-is charge trace.sizes next first past.state event is.1
scheduled charge trace next first past end (event ∷ events) is (suc k) mid ran lt =
    scheduled charge trace next first (past_after trace.sizes past is.0) end events is.3 k mid
    (ap (λ r. and_then r (λ done. run_from charge trace (past_after trace.sizes past done) (take k events))) (sym is.2) ∙ ran) (omega arith)
