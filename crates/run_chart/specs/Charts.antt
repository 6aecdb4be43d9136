-- A chart that is noted event by event, beside the chart of the run.
use Rattle.std.specs.Prelude.{◌≡◌, ℕ, ◌<◌, Bool, ◌&&◌, ◌==◌, List, length, filter}
use Rattle.op_model.specs.declared.events.Class.{Class}
use Rattle.op_model.specs.declared.events.Event.{Event}
use Rattle.op_model.specs.Messages.{same_class, msg_class}
use Rattle.op_model.specs.Run.Machines.{MachineRun}
use Rattle.op_model.specs.Events.Step.{event_node}
use Rattle.chart_strokes.specs.declared.strokes.Letter.{Letter}
use Rattle.chart_strokes.specs.declared.strokes.Stroke.{Stroke}
use Rattle.chart_strokes.specs.Strokes.{Letters, line_of_event, chart_of, strokes_of}
use Rattle.run_chart.specs.declared.before.Before.{Before}

-- the letters under way in the order in which they were sent, and the strokes so far
pub record ChartView : Type 0 where
  pub letters : List Letter
  pub strokes : List Stroke

-- a letter goes from this node to that one, in this class
abbrev pub is_in_lane : ℕ → ℕ → Class → Letter → Bool
is_in_lane src dst class letter = (letter.src == src) && ((letter.dst == dst) && same_class class (msg_class letter.msg))

-- the letters of each lane, of all that are under way
abbrev pub in_lane : List Letter → Letters
in_lane letters src dst class = filter (is_in_lane src dst class) letters

-- what is known of an event before it is made
pub record IsBefore (m : MachineRun) (event : Event) (before : Before) : Type 0 where
  pub node : before.node ≡ event_node m.sizes event
  pub place : before.place ≡ (m.past.state.share (event_node m.sizes event)).place
  pub line : before.line ≡ line_of_event m.sizes m.programs m.past.state event
  pub served : before.served ≡ length m.past.served

-- a chart has the strokes of a run, and in each lane of the machine the letters of that run
pub record IsChartOf (m : MachineRun) (chart : ChartView) : Type 0 where
  pub strokes : chart.strokes ≡ strokes_of m
  pub letters : (src dst : ℕ) (class : Class) → src < m.sizes.nodes → dst < m.sizes.nodes → in_lane chart.letters src dst class ≡ (chart_of m).letters src dst class
