-- What an event changes of the letters under way.
use Rattle.std.specs.Prelude.{◌≡◌, ℕ, ◌<◌, ◌≢◌, true, List, ◌++◌, length, map, drop}
use Rattle.std.specs.List.{All}
use Rattle.op_model.specs.declared.events.Class.{Class}
use Rattle.op_model.specs.declared.messages.Msg.{Msg}
use Rattle.op_model.specs.Messages.{same_class, msg_class}
use Rattle.op_model.specs.Shares.{Lanes}
use Rattle.chart_strokes.specs.declared.strokes.Letter.{Letter}
use Rattle.chart_strokes.specs.Strokes.{letter_from}
use Rattle.run_chart.specs.Charts.{in_lane}

-- the messages of a lane behind those that are letters already, as letters with this number
abbrev pub new_letters : ℕ → ℕ → ℕ → Class → List Letter → List Msg → List Letter
new_letters number src dst class letters messages = map (letter_from number src dst) (drop (length (in_lane letters src dst class)) messages)

-- each message in a node's lanes to the first n nodes is of its lane's class
abbrev pub AreOfClass : ℕ → ℕ → Lanes → Type 0
AreOfClass src n lane = (dst : ℕ) (class : Class) → dst < n → All (λ msg. same_class class (msg_class msg) ≡ true) (lane src dst class)

-- what a node has newly sent to the first n nodes stands as letters behind those that were there
pub record ArePosted (number src n : ℕ) (lane : Lanes) (old new : List Letter) : Type 0 where
  pub own : (dst : ℕ) (class : Class) → dst < n → in_lane new src dst class ≡ in_lane old src dst class ++ new_letters number src dst class old (lane src dst class)
  pub others : (a b : ℕ) (class : Class) → a ≢ src → in_lane new a b class ≡ in_lane old a b class
