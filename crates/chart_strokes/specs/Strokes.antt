-- The strokes of a run: what its chart shows of each event, in their order.
use Rattle.std.specs.Prelude.{ℕ, suc, ◌++◌, Bool, false, if◌then◌else◌, ◌&&◌, ◌||◌, ◌==◌, nat_lt, List, [], ◌∷◌, length, map, drop, slice_get, Option, Some, None, Result, Ok, Err}
use Rattle.line_map.specs.Sizes.{Sizes, line_of}
use Rattle.op_model.specs.declared.events.Class.{Class}
use Rattle.op_model.specs.declared.messages.Msg.{Msg}
use Rattle.op_model.specs.Messages.{msg_line}
use Rattle.op_model.specs.declared.operations.Op.{Op}
use Rattle.op_model.specs.declared.operations.Entry.{Entry}
use Rattle.op_model.specs.declared.events.Cause.{Cause}
use Rattle.op_model.specs.declared.events.Event.{Event}
use Rattle.op_model.specs.declared.events.Event.TheVariants.{Hit, Issue, Evict, Take, Reclaim}
use Rattle.op_model.specs.Shares.{Charge, State}
use Rattle.op_model.specs.Events.Step.{Programs, Done, effect, to_lane, event_node}
use Rattle.op_model.specs.Run.Runs.{Past, past_after, start}
use Rattle.op_model.specs.Run.Counts.{taken_by}
use Rattle.op_model.specs.Run.Machines.{MachineRun}
use Rattle.chart_strokes.specs.declared.strokes.Letter.{Letter}
use Rattle.chart_strokes.specs.declared.strokes.Stroke.{Stroke}

-- ---- letters: messages in lanes, each with the event that sent it

-- the letters of each lane, from the front
abbrev pub Letters : Type 0
Letters = ℕ → ℕ → Class → List Letter

abbrev pub no_letters : Letters
no_letters a b class = []

abbrev pub letter_from : ℕ → ℕ → ℕ → Msg → Letter
letter_from number src dst msg = record { sent = number; src = src; dst = dst; msg = msg }

-- the letters that the event with this number sends into a lane
abbrev pub letters_sent : ℕ → ℕ → ℕ → Class → Done → List Letter
letters_sent number a b class done = if a == done.node then map (letter_from number a b) (to_lane b class done.out.sends) else []

-- Lanes are first in, first out: the letter that an event takes leaves the front, and those that it sends come behind
abbrev pub letters_after : ℕ → Letters → Done → Letters
letters_after number letters done a b class = drop (done.off a b class) (letters a b class) ++ letters_sent number a b class done

abbrev pub letter_taken : Letters → Event → Option Letter
letter_taken letters (Take src dst class victim) = slice_get (letters src dst class) 0
letter_taken letters _ = None

-- ---- one event

-- the operation at a node's place
abbrev pub next_op : Programs → State → ℕ → Option Op
next_op programs state node = slice_get (programs node) (state.share node).place

abbrev pub line_of_op : Sizes → Option Op → Option ℕ
line_of_op sizes None = None
line_of_op sizes (Some op) = Some (line_of sizes op.word)

abbrev pub line_of_message : Option Msg → Option ℕ
line_of_message None = None
line_of_message (Some msg) = Some (msg_line msg)

-- the line that an event is about: that of the operation, of the message taken, or the line that it names
abbrev pub line_of_event : Sizes → Programs → State → Event → Option ℕ
line_of_event sizes programs state (Hit node) = line_of_op sizes (next_op programs state node)
line_of_event sizes programs state (Issue node) = line_of_op sizes (next_op programs state node)
line_of_event sizes programs state (Evict node line kind) = Some line
line_of_event sizes programs state (Take src dst class victim) = line_of_message (taken_by state (Take src dst class victim))
line_of_event sizes programs state (Reclaim line) = Some line

-- the entry of the operation at this place of a node's program, of those served
abbrev pub operation_entry : ℕ → ℕ → List Entry → Option Entry
operation_entry node place [] = None
operation_entry node place (entry ∷ entries) = if (entry.node == node) && (entry.index == place) then Some entry else operation_entry node place entries

-- what a node completes where its place moves on
abbrev pub completed_at : ℕ → Past → Past → Option Entry
completed_at node before after =
    if nat_lt (before.state.share node).place (after.state.share node).place then operation_entry node (before.state.share node).place after.served else None

abbrev pub stroke_of : Sizes → Programs → ℕ → Letters → Past → Event → Past → Stroke
stroke_of sizes programs number letters before event after =
    record {
      number = number;
      event = event;
      node = event_node sizes event;
      line = line_of_event sizes programs before.state event;
      letter = letter_taken letters event;
      served = slice_get after.served (length before.served);
      completed = completed_at (event_node sizes event) before after;
    }

-- ---- all events

-- a run with what its chart shows so far
pub record Charted : Type 0 where
  pub past : Past
  pub letters : Letters
  pub strokes : List Stroke

-- one event more, which does this
abbrev pub charted_after : Sizes → Programs → Charted → Event → Done → Charted
charted_after sizes programs chart event done =
    let number = suc (length chart.strokes) in
    let past = past_after sizes chart.past done in
    record {
      past = past;
      letters = letters_after number chart.letters done;
      strokes = chart.strokes ++ stroke_of sizes programs number chart.letters chart.past event past ∷ [];
    }

-- a chart ends where an event is refused
abbrev pub charted_then : Charted → (Done → Charted) → Result Done Cause → Charted
charted_then chart rest (Ok done) = rest done
charted_then chart rest (Err cause) = chart

abbrev pub charted : Charge → Sizes → Programs → Charted → List Event → Charted
charted charge sizes programs chart [] = chart
charted charge sizes programs chart (event ∷ events) =
    charted_then chart (λ done. charted charge sizes programs (charted_after sizes programs chart event done) events) (effect charge sizes programs chart.past.state event)

-- the chart of the run that a machine has made
abbrev pub first_chart : Sizes → Charted
first_chart sizes = record { past = start sizes; letters = no_letters; strokes = [] }

abbrev pub chart_of : MachineRun → Charted
chart_of m = charted m.charge m.sizes m.programs (first_chart m.sizes) m.events

unfoldable pub strokes_of : MachineRun → List Stroke
strokes_of m = (chart_of m).strokes

-- ---- a choice of strokes

abbrev pub called_in : Event → Option ℕ
called_in (Take src dst class victim) = victim
called_in _ = None

abbrev pub is_line : ℕ → Option ℕ → Bool
is_line line None = false
is_line line (Some other) = other == line

-- an event is about a line, or calls it in
abbrev pub is_about : ℕ → Stroke → Bool
is_about line stroke = is_line line stroke.line || is_line line (called_in stroke.event)
