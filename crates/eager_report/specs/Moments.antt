-- The events of a run of the eager core, each with the state before it and what it did, as the counts read them.
use Rattle.std.specs.Prelude.{List, [], ◌∷◌, Result, Ok, Err}
use Rattle.line_map.specs.Sizes.{Sizes}
use Rattle.op_model.specs.declared.events.Cause.{Cause}
use Rattle.op_model.specs.declared.events.Event.{Event}
use Rattle.op_model.specs.Events.Step.{Programs}
use Rattle.op_model.specs.Run.Counts.{Moment}
use Rattle.eager_model.specs.Runs.{Past, past_after}
use Rattle.eager_model.specs.Step.{AgedDone, effect, without_ages}

abbrev pub moment_of : Past → Event → AgedDone → Moment
moment_of past event done = record { before = past.state; event = event; done = without_ages done }

abbrev pub moments_then : Past → Event → (AgedDone → List Moment) → Result AgedDone Cause → List Moment
moments_then past event rest (Ok done) = moment_of past event done ∷ rest done
moments_then past event rest (Err cause) = []

-- the moments of a list of events, from a moment of a run on
abbrev pub moments : Sizes → Programs → Past → List Event → List Moment
moments sizes programs past [] = []
moments sizes programs past (event ∷ events) =
    moments_then past event (λ done. moments sizes programs (past_after sizes past done) events) (effect sizes programs past.state past.ages event)
