-- What the strokes of a run tell of it, without the letters in its lanes.
use Rattle.std.specs.Prelude.{◌≡◌, ℕ, suc, List, ◌∷◌, ◌++◌, length, map, Option, Some, None, Ok, All}
use Rattle.op_model.specs.declared.messages.Msg.{Msg}
use Rattle.op_model.specs.declared.events.Event.{Event}
use Rattle.op_model.specs.Events.Step.{Done, effect}
use Rattle.op_model.specs.Run.Runs.{Past, start, run_by}
use Rattle.op_model.specs.Run.Counts.{taken_by}
use Rattle.op_model.specs.Run.Machines.{MachineRun}
use Rattle.chart_strokes.specs.declared.strokes.Letter.{Letter}
use Rattle.chart_strokes.specs.declared.strokes.Stroke.{Stroke}

-- a message to this node is among those that are sent
pub record IsAmong (dst : ℕ) (msg : Msg) (sends : List (ℕ × Msg)) : Type 0 where
  pub first : List (ℕ × Msg)
  pub rest : List (ℕ × Msg)
  pub is : sends ≡ first ++ (dst, msg) ∷ rest

-- An event of this number is done in a run of these events: those before it run, and then it does this
pub record IsDoneIn (m : MachineRun) (events : List Event) (number : ℕ) (event : Event) (past : Past) (done : Done) : Type 0 where
  pub earlier : List Event
  pub later : List Event
  pub all : events ≡ earlier ++ event ∷ later
  pub number_is : number ≡ suc (length earlier)
  pub ran : run_by m.charge m.sizes m.programs (start m.sizes) earlier ≡ Some past
  pub does : effect m.charge m.sizes m.programs past.state event ≡ Ok done

-- the event whose number a letter bears is done at the node that the letter comes from, and sends its message to the node that it goes to
pub record IsSentIn (m : MachineRun) (events : List Event) (letter : Letter) : Type 0 where
  pub event : Event
  pub past : Past
  pub done : Done
  pub is_done : IsDoneIn m events letter.sent event past done
  pub node : letter.src ≡ done.node
  pub sends : IsAmong letter.dst letter.msg done.out.sends

abbrev pub letter_message : Option Letter → Option Msg
letter_message None = None
letter_message (Some letter) = Some letter.msg

-- A stroke is of the event with its number, at its node. It shows the message that the event took, as a letter to that node which an event before it sent
pub record IsTold (m : MachineRun) (events : List Event) (stroke : Stroke) : Type 0 where
  pub past : Past
  pub done : Done
  pub is_done : IsDoneIn m events stroke.number stroke.event past done
  pub node : stroke.node ≡ done.node
  pub taken : letter_message stroke.letter ≡ taken_by past.state stroke.event
  pub goes : (letter : Letter) → stroke.letter ≡ Some letter → letter.dst ≡ stroke.node
  pub sent : (letter : Letter) → stroke.letter ≡ Some letter → IsSentIn m (is_done.earlier) letter

abbrev pub stroke_event : Stroke → Event
stroke_event stroke = stroke.event

-- There is a stroke for each event, in their order, and each tells what happened
pub record AreTold (m : MachineRun) (strokes : List Stroke) : Type 0 where
  pub events : map stroke_event strokes ≡ m.events
  pub each : All (IsTold m m.events) strokes
