-- What each command makes of a trace by the eager core: a run of it, and the text of the run.
use Rattle.std.specs.Prelude.{◌≡◌, ℕ, ◌+◌, List, slice_get, take, Some, Err}
use Rattle.op_model.specs.declared.events.Cause.{Cause}
use Rattle.op_model.specs.declared.events.Event.{Event}
use Rattle.op_model.specs.Shares.{Trace, program}
use Rattle.eager_model.specs.Runs.{Past, run}
use Rattle.eager_model.specs.Step.{effect}
use Rattle.eager_schedule.specs.Promises.{KeepsPromise}
use Rattle.eager_machine.specs.Schedules.{IsSerialWhole}
use Rattle.eager_report.specs.Reports.{report_text}
use Rattle.command_words.specs.declared.command.EagerPlay.{EagerPlay}
use Rattle.command_words.specs.declared.command.EagerPlay.TheVariants.{Serial, Replay}
use Rattle.commands.specs.declared.replaying.ReplayError.{ReplayError}
use Rattle.commands.specs.declared.replaying.ReplayError.TheVariants.{NotEnabled, Memory}

-- which events a command makes: the serial schedule, to its end, or the trace's own steps
abbrev pub AreEagerEvents : EagerPlay → Trace → List Event → Past → Type 0
AreEagerEvents Serial trace events past = IsSerialWhole trace events past
AreEagerEvents Replay trace events past = events ≡ trace.steps

-- The text is that of the command's run of the trace: the events run from the start, each enabled at its place, and what the eager
-- core promises holds of their run
pub record IsEagerOutput (play : EagerPlay) (trace : Trace) (text : List ℕ) : Type 0 where
  pub events : List Event
  pub past : Past
  pub made : AreEagerEvents play trace events past
  pub ran : run trace events ≡ Some past
  pub keeps : KeepsPromise trace past
  pub printed : text ≡ report_text trace.sizes (program trace) events past

-- the step of this number, from 1, is the first that isn't enabled, for this cause, its first one
pub record IsEagerRefused (trace : Trace) (step : ℕ) (cause : Cause) : Type 0 where
  pub before : ℕ
  pub number : step ≡ before + 1
  pub moment : Past
  pub ran : run trace (take before trace.steps) ≡ Some moment
  pub event : Event
  pub next : slice_get trace.steps before ≡ Some event
  pub refused : effect trace.sizes (program trace) moment.state moment.ages event ≡ Err cause

-- a command that runs the trace's own steps comes to one that isn't enabled
abbrev pub IsEagerRefusedIn : EagerPlay → Trace → ℕ → Cause → Type 0
IsEagerRefusedIn Serial trace step cause = ⊥
IsEagerRefusedIn Replay trace step cause = IsEagerRefused trace step cause

-- why there is no text. Want of memory says nothing of the trace
abbrev pub IsEagerStopped : EagerPlay → Trace → ReplayError → Type 0
IsEagerStopped play trace (NotEnabled step cause) = IsEagerRefusedIn play trace step cause
IsEagerStopped play trace Memory = Unit {0}
