-- Delivery: one after another, the first message of the first lane that isn't empty is taken.
use Rattle.std.specs.Prelude.{◌≡◌, ◌≤◌, List, [], ◌∷◌, length, Option, Some, Ok, option_map}
use Rattle.line_map.specs.Sizes.{Sizes}
use Rattle.op_model.specs.declared.events.Event.{Event}
use Rattle.op_model.specs.Events.Step.{Done, effect}
use Rattle.op_model.specs.Run.Runs.{Past, past_after}
use Rattle.op_model.specs.Run.Schedules.{first_busy, delivery}
use Rattle.op_model.specs.Run.Weight.{weight}
use Rattle.op_model.specs.Shares.{Trace, program, Charge, State}

-- the delivery step of a state, where a lane isn't empty
abbrev pub next_delivery : Charge → Sizes → State → Option Event
next_delivery charge sizes state = option_map (delivery charge sizes state) (first_busy sizes state)

-- each event is the delivery step of the state before it and is done, and this is the end
abbrev pub IsDelivered : Charge → Trace → Past → List Event → Past → Type 0
IsDelivered charge trace past [] end = past ≡ end
IsDelivered charge trace past (event ∷ events) end =
    (done : Done) × (next_delivery charge trace.sizes past.state ≡ Some event) × (effect charge trace.sizes (program trace) past.state event ≡ Ok done) × IsDelivered charge trace (past_after trace.sizes past done) events end

-- delivery from a state on: the events, no more than the state weighs, and their end
pub record Delivery (charge : Charge) (trace : Trace) (past : Past) : Type 0 where
  pub events : List Event
  pub end : Past
  pub steps : IsDelivered charge trace past events end
  pub few : length events ≤ weight trace.sizes past.state
