-- A machine of the eager core as its text reads it.
use Rattle.std.specs.Prelude.{ℕ, List}
use Rattle.line_map.specs.Sizes.{Sizes}
use Rattle.op_model.specs.declared.events.Event.{Event}
use Rattle.op_model.specs.Events.Step.{Programs}
use Rattle.op_model.specs.Run.Counts.{Moment}
use Rattle.dir_report.specs.declared.mode.Mode.TheVariants.{Eager}
use Rattle.dir_report.specs.Machines.{Heads}
use Rattle.eager_model.specs.Runs.{Past, start}
use Rattle.eager_report.specs.Moments.{moments}
use Rattle.eager_report.specs.Reports.{report_text}

-- its sizes and its programs, the events that it has made, and what they have come to from the start
pub record EagerSeen : Type 0 where
  pub sizes : Sizes
  pub programs : Programs
  pub events : List Event
  pub past : Past

-- the headers that the run has come to
abbrev pub heads_of : EagerSeen → Heads
heads_of seen = record { mode = Eager; sizes = seen.sizes; state = seen.past.state }

-- the events of the run, each with the state before it and what it did
abbrev pub moments_of : EagerSeen → List Moment
moments_of seen = moments seen.sizes seen.programs (start seen.sizes) seen.events

-- the text of the run
abbrev pub report_of : EagerSeen → List ℕ
report_of seen = report_text seen.sizes seen.programs seen.events seen.past
