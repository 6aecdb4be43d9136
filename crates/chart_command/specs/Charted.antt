-- The chart of the run that a trace's own steps make.
use Rattle.std.specs.Prelude.{◌≡◌, ℕ, ◌<◌, ◌≤◌, List, length, Option, Some, None}
use Rattle.line_map.specs.Sizes.{all_lines}
use Rattle.op_model.specs.Shares.{Trace, Linked}
use Rattle.op_model.specs.Run.Runs.{Past, run}
use Rattle.chart_strokes.specs.Strokes.{strokes_of}
use Rattle.chart_laws.specs.Told.{AreTold}
use Rattle.chart_svg.specs.Pictures.{picture_text}
use Rattle.commands.specs.declared.replaying.ReplayError.{ReplayError}
use Rattle.commands.specs.declared.replaying.ReplayError.TheVariants as replay
use Rattle.commands.specs.Runs.{machine_after, machine_at_start}
use Rattle.commands.specs.Steps.{IsRefusedAt}
use Rattle.chart_command.specs.declared.charting.ChartError.{ChartError}
use Rattle.chart_command.specs.declared.charting.ChartError.TheVariants.{TooManyNodes, TooManySteps, NoLine, NotEnabled, Memory}

-- the line that is chosen, if one is, is a line of the machine
abbrev pub HasLine : Option ℕ → Trace → Type 0
HasLine None trace = Unit {0}
HasLine (Some line) trace = line < all_lines trace.sizes

-- A chart shows at most 16 nodes and 400 steps
pub record IsSmall (trace : Trace) : Type 0 where
  pub nodes : trace.sizes.nodes ≤ 16
  pub steps : length trace.steps ≤ 400

pub record IsDrawable (chosen : Option ℕ) (trace : Trace) : Type 0 where
  pub small : IsSmall trace
  pub line : HasLine chosen trace

-- The steps run from the start, each enabled at its place, and the text is the picture of the strokes of that run, of all or of those
-- about the chosen line. Those tell what happened
pub record IsChart (chosen : Option ℕ) (trace : Trace) (text : List ℕ) : Type 0 where
  pub fits : IsDrawable chosen trace
  pub past : Past
  pub ran : run Linked trace trace.steps ≡ Some past
  pub drawn : text ≡ picture_text trace.sizes.nodes chosen (strokes_of (machine_after Linked trace trace.steps past))
  pub told : AreTold (machine_after Linked trace trace.steps past) (strokes_of (machine_after Linked trace trace.steps past))

-- a line is chosen that the machine doesn't have
abbrev pub ChoosesNoLine : Option ℕ → Trace → ℕ → Type 0
ChoosesNoLine None trace line = ⊥
ChoosesNoLine (Some asked) trace line = (line ≡ asked) × (all_lines trace.sizes ≤ line)

-- why there is no chart, the first cause. Want of memory says nothing of the trace
abbrev pub IsNoChart : Option ℕ → Trace → ChartError → Type 0
IsNoChart chosen trace (TooManyNodes count) = (count ≡ trace.sizes.nodes) × (16 < count)
IsNoChart chosen trace (TooManySteps count) = (trace.sizes.nodes ≤ 16) × (count ≡ length trace.steps) × (400 < count)
IsNoChart chosen trace (NoLine line) = IsSmall trace × ChoosesNoLine chosen trace line
IsNoChart chosen trace (NotEnabled step cause) = IsDrawable chosen trace × IsRefusedAt (machine_at_start Linked trace) trace.steps step cause
IsNoChart chosen trace Memory = Unit {0}

-- how steps that weren't all made are answered
abbrev pub error_of_replay : ReplayError → ChartError
error_of_replay (replay.NotEnabled step cause) = NotEnabled step cause
error_of_replay replay.Memory = Memory
