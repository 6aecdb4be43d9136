-- What an event did at its node, and how the messages go their ways.
use Rattle.std.specs.Prelude.{◌≡◌, ℕ, suc, ◌+◌, ◌≤◌, ◌<◌, ◌==◌, Bool, true, false, if◌then◌else◌, List, [], ◌∷◌, ◌++◌, length, drop, set, slice_get, is_some, option_to_list, Option, Some, None, Result, Ok, Err}
use Rattle.line_map.specs.Sizes.{Sizes}
use Rattle.op_model.specs.declared.events.Cause.{Cause}
use Rattle.op_model.specs.declared.events.Class.{Class}
use Rattle.op_model.specs.declared.events.Event.{Event}
use Rattle.op_model.specs.declared.events.Event.TheVariants.{Take}
use Rattle.op_model.specs.declared.messages.Msg.{Msg}
use Rattle.op_model.specs.declared.operations.Entry.{Entry}
use Rattle.op_model.specs.Messages.{msg_line}
use Rattle.op_model.specs.Lines.{For}
use Rattle.op_model.specs.Operations.{Words}
use Rattle.op_model.specs.Shares.{Charge, Lanes, Share, want_on}
use Rattle.op_model.specs.Events.Node.{Input, NodeOutcome, meets_row, local, permit}
use Rattle.op_model.specs.Events.Step.{to_lane, off_of}
use Rattle.op_model.specs.Events.Step.{effect as effect_of}
use Rattle.op_model.specs.Run.Counts.{taken_by, takes_marked}
use Rattle.op_model.specs.Run.Runs.{entry_for}
use Rattle.cpu_cache.specs.declared.effects.Effect.{Effect}
use Rattle.cpu_cache.specs.declared.effects.Served.{Served}
use Rattle.cpu_cache.specs.declared.effects.Served.TheVariants as served
use Rattle.lane_queues.specs.LaneStates.{LaneState, HasFront, capacity_of}
use Rattle.event_tally.specs.Marks.{take_marks_of}
use Rattle.machine.specs.declared.acts.Act.{Act}
use Rattle.machine.specs.Faces.{Face, outcome_at}
use Rattle.cpu_cache.specs.Effects.{served_of}
use Rattle.op_model.specs.Programs.{programs_of}
use Rattle.machine.specs.Kept.{programs_in, share_in, state_of}

-- lanes after a node's messages have come to their ends, those of a lane put into it so
abbrev pub sent_by : {A : Type 0} → (List Msg → List A) → ℕ → List (ℕ × Msg) → (ℕ → ℕ → Class → List A) → ℕ → ℕ → Class → List A
sent_by put node sends lane a b class = lane a b class ++ (if a == node then put (to_lane b class sends) else [])

-- and as they are
abbrev pub sent_from : ℕ → List (ℕ × Msg) → Lanes → Lanes
sent_from node sends lane a b class = sent_by (λ messages. messages) node sends lane a b class

-- the lanes without the messages that an event takes
abbrev pub taken_off : {A : Type 0} → Event → (ℕ → ℕ → Class → List A) → ℕ → ℕ → Class → List A
taken_off event lane a b class = drop (off_of event a b class) (lane a b class)

-- all messages fit behind what a node's lanes hold
abbrev pub FitsAll : LaneState → ℕ → List (ℕ × Msg) → Type 0
FitsAll state node sends = (dst : ℕ) (class : Class) → length (state.lane node dst class) + length (to_lane dst class sends) ≤ capacity_of state class

-- the entries of what an event served, read from the shares after it. A load of another node is on the line of the message that was taken
abbrev pub entries_after : Sizes → (ℕ → Share) → Option Msg → Served → List Entry
entries_after sizes share taken served.Nothing = []
entries_after sizes share taken (served.Own entry) = entry ∷ []
entries_after sizes share None (served.LoadBy node on) = []
entries_after sizes share (Some m) (served.LoadBy node on) = entry_for node (share node).place on (want_on sizes (share node).want (msg_line m))

-- words that another node is sent fill a line
abbrev pub FillsLine : Sizes → Served → Type 0
FillsLine sizes (served.LoadBy node on) = length on ≡ sizes.words
FillsLine sizes _ = Unit {0}

-- One of the nodes did its row for an input: its share is the row's, and this is sent
pub record IsDoneAt (sizes : Sizes) (faces faces' : List Face) (node : ℕ) (input : Input) (sends : List (ℕ × Msg)) (effect : Effect) : Type 0 where
  pub face : Face
  pub there : slice_get faces node ≡ Some face
  pub out : NodeOutcome
  pub does : outcome_at face input ≡ Ok out
  pub after : faces' ≡ set faces node (record face { share = out.share })
  pub sends_are : sends ≡ out.sends
  pub served : effect.served ≡ served_of node face.share.place out.served
  pub is_done : is_some effect.done ≡ out.done

-- or refused it for this cause
pub record IsRefusedAt (faces : List Face) (node : ℕ) (input : Input) (cause : Cause) : Type 0 where
  pub face : Face
  pub there : slice_get faces node ≡ Some face
  pub refuses : outcome_at face input ≡ Err cause

-- what is noted of an effect: whether an operation was done, and the entry of what was served, where this message was taken
pub record IsNoted (sizes : Sizes) (faces : List Face) (taken : Option Msg) (effect : Effect) (act : Act) : Type 0 where
  pub done_is : act.done ≡ is_some effect.done
  pub entry_is : option_to_list act.entry ≡ entries_after sizes (share_in sizes faces) taken effect.served

-- one of the nodes did its row for an input of its own
pub record IsAlone (sizes : Sizes) (faces faces' : List Face) (node : ℕ) (input : Input) (sends : List (ℕ × Msg)) (act : Act) : Type 0 where
  pub node_is : act.node ≡ node
  pub effect : Effect
  pub row : IsDoneAt sizes faces faces' act.node input sends effect
  pub noted : IsNoted sizes faces' None effect act
  pub takes_nothing : act.takes ≡ take_marks_of None
  pub not_marked : act.marked ≡ false

-- the first message of a lane meets a row at its taker
pub record AreFrontsMet (sizes : Sizes) (faces : List Face) (lane : Lanes) : Type 0 where
  pub meets : (src dst : ℕ) (class : Class) (m : Msg) (rest : List Msg) → lane src dst class ≡ m ∷ rest → meets_row sizes dst (share_in sizes faces dst) src m ≡ true

-- a load of another node is on the line of the message that was taken, and its words leave what their sender does as it was
pub record IsRead (old : Share) (out : NodeOutcome) (taken : Option Msg) : Type 0 where
  pub m : Msg
  pub taken_is : taken ≡ Some m
  pub line : out.line ≡ msg_line m
  pub place : out.share.place ≡ old.place
  pub want : out.share.want ≡ old.want

-- an event takes the first message of its lane, which is a write-back or a hint, or isn't
abbrev pub TakesFront : Lanes → Event → Bool → Type 0
TakesFront lane (Take src dst class victim) departs = HasFront (lane src dst class) departs
TakesFront lane _ departs = Unit {0}

-- What an event did: its row at its node, and what is noted of it and of the message that it took
pub record IsAct (charge : Charge) (sizes : Sizes) (faces faces' : List Face) (lane : Lanes) (event : Event) (sends : List (ℕ × Msg)) (act : Act) : Type 0 where
  pub input : Input
  pub effect : Effect
  pub row : IsDoneAt sizes faces faces' act.node input sends effect
  pub does : effect_of charge sizes (programs_of (programs_in faces)) (state_of sizes faces lane) event ≡ Ok (record { node = act.node; out = row.out; off = off_of event })
  pub below : act.node < sizes.nodes
  pub place : row.out.share.place ≡ (if row.out.done then suc row.face.share.place else row.face.share.place)
  pub noted : IsNoted sizes faces' (taken_by (state_of sizes faces lane) event) effect act
  pub takes_is : act.takes ≡ take_marks_of (taken_by (state_of sizes faces lane) event)
  pub front : TakesFront lane event act.departs
  pub marked_is : act.marked ≡ takes_marked sizes (state_of sizes faces lane) event (taken_by (state_of sizes faces lane) event)
  pub reads : (reader : ℕ) (on : Words) → row.out.served ≡ For reader on → IsRead row.face.share row.out (taken_by (state_of sizes faces lane) event)

-- an event is refused for this cause
abbrev pub IsRefusedIn : Charge → Sizes → List Face → Lanes → Event → Cause → Type 0
IsRefusedIn charge sizes faces lane event cause = effect_of charge sizes (programs_of (programs_in faces)) (state_of sizes faces lane) event ≡ Err cause

-- whether a node of the machine would do its row for an input, and whether an event would be made
abbrev pub permit_at : Charge → Sizes → List Face → ℕ → Input → Result (Unit {0}) Cause
permit_at charge sizes faces node input = permit (local charge sizes node (programs_of (programs_in faces) node) (share_in sizes faces node) input)

abbrev pub IsPermitIn : Charge → Sizes → List Face → Lanes → Event → Result (Unit {0}) Cause → Type 0
IsPermitIn charge sizes faces lane event result = result ≡ permit (effect_of charge sizes (programs_of (programs_in faces)) (state_of sizes faces lane) event)
