-- Delivery in the eager core: one after another, the first message of the first lane that isn't empty is taken.
use Rattle.std.specs.Prelude.{◌≡◌, ◌≤◌, List, [], ◌∷◌, length, Some, Ok}
use Rattle.op_model.specs.declared.events.Event.{Event}
use Rattle.op_model.specs.Run.Weight.{weight}
use Rattle.op_model.specs.Shares.{Trace, program, Unlinked}
use Rattle.rest_laws.specs.Delivery.{next_delivery}
use Rattle.eager_model.specs.Step.{AgedDone, effect}
use Rattle.eager_model.specs.Runs.{Past, past_after}

-- each event is the delivery step of the state before it and is done, and this is the end
abbrev pub IsDelivered : Trace → Past → List Event → Past → Type 0
IsDelivered trace past [] end = past ≡ end
IsDelivered trace past (event ∷ events) end =
    (done : AgedDone) × (next_delivery Unlinked trace.sizes past.state ≡ Some event) × (effect trace.sizes (program trace) past.state past.ages event ≡ Ok done) × IsDelivered trace (past_after trace.sizes past done) events end

-- delivery from a state on: the events, no more than the state weighs, and their end
pub record Delivery (trace : Trace) (past : Past) : Type 0 where
  pub events : List Event
  pub end : Past
  pub steps : IsDelivered trace past events end
  pub few : length events ≤ weight trace.sizes past.state
