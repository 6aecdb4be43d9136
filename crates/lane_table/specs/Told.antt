-- What the rule tells a node of the rest of the machine at one of its steps.
use Rattle.std.specs.Prelude.{◌≡◌, ◌≢◌, ℕ, ◌≤◌, true, List, [], ◌∷◌, drop, length, All, Some}
use Rattle.op_model.specs.declared.events.Class.{Class}
use Rattle.op_model.specs.declared.messages.Msg.{Msg}
use Rattle.op_model.specs.Messages.{msg_class}
use Rattle.op_model.specs.MessageWords.{header_word, IsMsgOf}
use Rattle.op_model.specs.declared.events.Event.{Event}
use Rattle.op_model.specs.Events.Node.{meets_row}
use Rattle.op_model.specs.Run.Runs.{Past}
use Rattle.op_model.specs.Run.Bounds.{lane_bound}
use Rattle.op_model.specs.Parts.Part.{Part, sent_to, flushed_to, taken_from, cleared_from, in_note, named}
use Rattle.op_model.specs.Parts.Journal.{Agrees}
use Rattle.line_map.specs.Sizes.{Sizes}
use Rattle.lane_table.specs.Setups.{Setup, run_in}

-- what a node has sent on a lane and not flushed yet
abbrev pub unflushed : Part → (dst : ℕ) → Class → List Msg
unflushed part dst class = drop (flushed_to part dst class) (sent_to part dst class)

-- There is a run after which the part's node has the part's share, and each lane from it is what it has sent without some messages
-- that it has flushed. Each event of the part's log stands in that run at the place that its ticket says
pub record IsReached (setup : Setup) (part : Part) : Type 0 where
  pub journal : List Event
  pub past : Past
  pub ran : run_in setup journal ≡ Some past
  pub tickets : Agrees journal part.log
  pub share : past.state.share part.number ≡ part.share
  pub lanes : (dst : ℕ) (class : Class) → (k : ℕ) × (k ≤ flushed_to part dst class) × (past.state.lane part.number dst class ≡ drop k (sent_to part dst class))

-- What a node has yet to flush: in each lane no more than its bound, and messages of the machine; and nothing was ever sent to
-- a number that is no node
pub record IsOutgoing (sizes : Sizes) (part : Part) : Type 0 where
  pub within : (dst : ℕ) (class : Class) → flushed_to part dst class ≤ length (sent_to part dst class)
  pub bound : (dst : ℕ) (class : Class) → length (unflushed part dst class) ≤ lane_bound sizes class
  pub of_machine : (dst : ℕ) (class : Class) → All (IsMsgOf sizes) (unflushed part dst class)
  pub nowhere : (dst : ℕ) (class : Class) → sizes.nodes ≤ dst → sent_to part dst class ≡ []

-- There is a run after which the part's node has the part's share, with each event of its log at the place that its ticket says, and
-- this message is the front of its lane from src. So it meets a row, another node sent it, and it is one of the machine and of its
-- lane's class
pub record IsFront (setup : Setup) (part : Part) (src : ℕ) (class : Class) (m : Msg) : Type 0 where
  pub journal : List Event
  pub past : Past
  pub ran : run_in setup journal ≡ Some past
  pub tickets : Agrees journal part.log
  pub share : past.state.share part.number ≡ part.share
  pub rest : List Msg
  pub front : past.state.lane src part.number class ≡ m ∷ rest
  pub row : meets_row setup.sizes part.number part.share src m ≡ true
  pub other : src ≢ part.number
  pub of_machine : IsMsgOf setup.sizes m
  pub of_class : msg_class m ≡ class

-- what the taker's standing note names is such a front, until its event is made
abbrev pub Fronts : Setup → Part → (src : ℕ) → Class → Type 0
Fronts setup part src class =
    (m : Msg) → named setup.sizes (in_note part src class) ≡ Some m → taken_from part src class ≡ cleared_from part src class → IsFront setup part src class m

-- a header word that isn't 0 is that of a message of this machine
abbrev pub IsHeader : Sizes → ℕ → Type 0
IsHeader sizes word = word ≢ 0 → (m : Msg) × IsMsgOf sizes m × (header_word m ≡ word)

-- a step that tells of nobody else
abbrev pub tells_none : ℕ → Type 0
tells_none n = Unit {0}
