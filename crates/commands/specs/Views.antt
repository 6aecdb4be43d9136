-- What is shown of the run that a trace's own steps make: the state after the first of them, or the story of a line over all of them.
use Rattle.std.specs.Prelude.{◌≡◌, ℕ, ◌<◌, ◌≤◌, List, length, take, Some}
use Rattle.line_map.specs.Sizes.{all_lines}
use Rattle.op_model.specs.declared.events.Cause.{Cause}
use Rattle.op_model.specs.declared.events.Event.{Event}
use Rattle.op_model.specs.Shares.{Trace, Linked}
use Rattle.op_model.specs.Run.Machines.{MachineRun}
use Rattle.op_model.specs.Run.Runs.{Past, run}
use Rattle.time_view.specs.States.{state_text}
use Rattle.time_view.specs.Stories.{story_text}
use Rattle.command_words.specs.declared.command.View.{View}
use Rattle.command_words.specs.declared.command.View.TheVariants.{At, Story}
use Rattle.commands.specs.declared.replaying.ReplayError.{ReplayError}
use Rattle.commands.specs.declared.replaying.ReplayError.TheVariants as replay
use Rattle.commands.specs.declared.viewing.ViewError.{ViewError}
use Rattle.commands.specs.declared.viewing.ViewError.TheVariants.{TooFar, NoLine, NotEnabled, Memory}
use Rattle.commands.specs.Runs.{machine_after, machine_at_start}
use Rattle.commands.specs.Steps.{IsRefusedAt}

-- the trace has what is asked for: so many steps, or the line
abbrev pub IsThere : View → Trace → Type 0
IsThere (At count) trace = count ≤ length trace.steps
IsThere (Story line) trace = line < all_lines trace.sizes

-- the steps that are made: the first ones, or all of them
abbrev pub steps_of : View → Trace → List Event
steps_of (At count) trace = take count trace.steps
steps_of (Story line) trace = trace.steps

-- what is written of the machine that has made them
abbrev pub text_of : View → MachineRun → List ℕ
text_of (At count) m = state_text m
text_of (Story line) m = story_text m line

-- What is asked for is there, the steps run from the start, each enabled at its place, and the text is that of the machine that has made them
pub record IsView (view : View) (trace : Trace) (text : List ℕ) : Type 0 where
  pub there : IsThere view trace
  pub past : Past
  pub ran : run Linked trace (steps_of view trace) ≡ Some past
  pub printed : text ≡ text_of view (machine_after Linked trace (steps_of view trace) past)

-- a step that is to be made isn't enabled: the first such step, with its first cause
pub record IsHalted (view : View) (trace : Trace) (step : ℕ) (cause : Cause) : Type 0 where
  pub there : IsThere view trace
  pub refused : IsRefusedAt (machine_at_start Linked trace) (steps_of view trace) step cause

-- more steps are asked for than the trace has, which are so many
abbrev pub IsTooFar : View → Trace → ℕ → Type 0
IsTooFar (At asked) trace count = (length trace.steps < asked) × (count ≡ length trace.steps)
IsTooFar (Story line) trace count = ⊥

-- this line is asked for, which the machine doesn't have
abbrev pub HasNoLine : View → Trace → ℕ → Type 0
HasNoLine (At count) trace line = ⊥
HasNoLine (Story asked) trace line = (line ≡ asked) × (all_lines trace.sizes ≤ line)

-- why nothing is shown. Want of memory says nothing of the trace
abbrev pub IsNoView : View → Trace → ViewError → Type 0
IsNoView view trace (TooFar count) = IsTooFar view trace count
IsNoView view trace (NoLine line) = HasNoLine view trace line
IsNoView view trace (NotEnabled step cause) = IsHalted view trace step cause
IsNoView view trace Memory = Unit {0}

-- how steps that weren't all made are answered
abbrev pub error_of_replay : ReplayError → ViewError
error_of_replay (replay.NotEnabled step cause) = NotEnabled step cause
error_of_replay replay.Memory = Memory
