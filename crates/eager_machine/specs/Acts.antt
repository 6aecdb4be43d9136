-- What an event did at its node.
use Rattle.std.specs.Prelude.{◌≡◌, ℕ, ◌+◌, ◌≤◌, ◌<◌, true, false, List, [], ◌∷◌, length, map, set, slice_get, is_some, option_to_list, All, Option, Some, None, Ok, Err}
use Rattle.line_map.specs.Sizes.{Sizes}
use Rattle.op_model.specs.declared.events.Cause.{Cause}
use Rattle.op_model.specs.declared.events.Class.{Class}
use Rattle.op_model.specs.declared.events.Event.{Event}
use Rattle.op_model.specs.declared.messages.Msg.{Msg}
use Rattle.op_model.specs.declared.operations.Entry.{Entry}
use Rattle.op_model.specs.Events.Node.{Input}
use Rattle.op_model.specs.Events.Step.{put_at, off_of}
use Rattle.op_model.specs.MessageWords.{IsMsgOf}
use Rattle.op_model.specs.Operations.{Words}
use Rattle.op_model.specs.Programs.{programs_of}
use Rattle.message_range.specs.Fitting.{IsSentOf}
use Rattle.msg_words.specs.SendList.{SendList}
use Rattle.event_tally.specs.Marks.{take_marks_of}
use Rattle.event_tally.specs.Tallies.{TellsMarks}
use Rattle.machine.specs.Acts.{entries_after}
use Rattle.eager_model.specs.Node.{local, meets_row, put_ages}
use Rattle.eager_model.specs.Runs.{AgedEntry, aged_entries}
use Rattle.eager_model.specs.Step.{AgedDone, effect, without_ages}
use Rattle.eager_home.specs.Aged.{AgedActs, AreWithin}
use Rattle.eager_home.specs.Views.{EagerView, ages_in, RiseWithin}
use Rattle.eager_home.specs.declared.aging.AgedEffect.{AgedEffect}
use Rattle.eager_machine.specs.Journals.{served_in}
use Rattle.eager_machine.specs.Kept.{share_in, node_ages, state_of, ages_of, programs_in, AreNodes, AreYoung}
use Rattle.eager_machine.specs.Lanes.{UnderWay, messages_of, AreFresh}
use Rattle.eager_machine.specs.declared.acts.Act.{Act}

-- no age rises by more than one, where the message taken has this age
abbrev pub RiseFrom : ℕ → EagerView → EagerView → AgedEffect → Type 0
RiseFrom age old new did = (bound : ℕ) → AreWithin bound (ages_in old) → age ≤ bound → RiseWithin bound (bound + 1) (ages_in new) did

-- One of the nodes did its act for an input, with the ages, where a message taken has this age. It had sent nothing before
pub record IsDoneAt (nodes nodes' : List EagerView) (node : ℕ) (input : Input) (age : ℕ) (sends : List (ℕ × Msg)) (did : AgedEffect) : Type 0 where
  pub old : EagerView
  pub new : EagerView
  pub there : slice_get nodes node ≡ Some old
  pub after : nodes' ≡ set nodes node new
  pub same : new ≡ record old { share = new.share; copy_ages = new.copy_ages; memory_ages = new.memory_ages }
  pub brought : Words
  pub out : SendList
  pub out' : SendList
  pub acts : AgedActs old.sizes old.number old.program brought old.share (ages_in old) input age new.share (ages_in new) out out' did
  pub is_done : is_some did.effect.done ≡ acts.acts.outcome.done
  pub nothing : out.list ≡ []
  pub sends_are : sends ≡ out'.list
  pub rises : RiseFrom age old new did

-- or refused it for this cause
pub record IsRefusedAt (nodes : List EagerView) (node : ℕ) (input : Input) (cause : Cause) : Type 0 where
  pub old : EagerView
  pub there : slice_get nodes node ≡ Some old
  pub refuses : local old.sizes old.number old.program old.share input ≡ Err cause

-- what is sent are messages of the machine to nodes of it
abbrev pub AreSent : Sizes → List (ℕ × Msg) → Type 0
AreSent sizes sends = All (IsSentOf sizes) sends

-- entries with this age
abbrev pub at_age : ℕ → List Entry → List AgedEntry
at_age age entries = map (λ entry. record { age = age; entry = entry }) entries

-- what is noted of an act: the age of the words given, whether an operation was done, and the entry of what was served, where this message was taken
pub record IsNoted (sizes : Sizes) (nodes : List EagerView) (taken : Option Msg) (did : AgedEffect) (act : Act) : Type 0 where
  pub given_is : act.given ≡ did.given
  pub done_is : act.done ≡ is_some did.effect.done
  pub entry_is : served_in (option_to_list act.entry) ≡ at_age did.served (entries_after sizes (share_in sizes nodes) taken did.effect.served)

-- one of the nodes did its act for an input of its own
pub record IsAlone (sizes : Sizes) (nodes nodes' : List EagerView) (node : ℕ) (input : Input) (sends : List (ℕ × Msg)) (act : Act) : Type 0 where
  pub node_is : act.node ≡ node
  pub did : AgedEffect
  pub row : IsDoneAt nodes nodes' node input 0 sends did
  pub sent : AreSent sizes sends
  pub noted : IsNoted sizes nodes' None did act
  pub takes_nothing : act.takes ≡ take_marks_of None
  pub not_marked : act.marked ≡ false

-- the first message of a lane is one of the machine and meets a row at its taker
pub record AreFrontsMet (sizes : Sizes) (nodes : List EagerView) (way : UnderWay) : Type 0 where
  pub meets : (src dst : ℕ) (class : Class) (m : Msg) (rest : List Msg) → messages_of way src dst class ≡ m ∷ rest → meets_row sizes dst (share_in sizes nodes dst) src m ≡ true
  pub of_machine : (src dst : ℕ) (class : Class) (m : Msg) (rest : List Msg) → messages_of way src dst class ≡ m ∷ rest → IsMsgOf sizes m

-- What an event did: what its definition says is done, in the nodes, in what is sent and in what is noted. No age rises by more than one
pub record IsAct (sizes : Sizes) (nodes nodes' : List EagerView) (way : UnderWay) (event : Event) (sends : List (ℕ × Msg)) (act : Act) : Type 0 where
  pub done : AgedDone
  pub does : effect sizes (programs_of (programs_in nodes)) (state_of sizes nodes way) (ages_of nodes way) event ≡ Ok done
  pub node_is : done.node ≡ act.node
  pub below : act.node < sizes.nodes
  pub off_is : done.off ≡ off_of event
  pub given_is : done.did.given ≡ act.given
  pub sends_are : done.did.out.sends ≡ sends
  pub sent : AreSent sizes sends
  pub nodes_are : AreNodes sizes nodes'
  pub programs_are : programs_in nodes' ≡ programs_in nodes
  pub shares : put_at (share_in sizes nodes) done.node done.did.out.share ≡ share_in sizes nodes'
  pub ages : put_at (node_ages nodes) done.node (put_ages done.did.out.line done.did.ages (node_ages nodes done.node)) ≡ node_ages nodes'
  pub noted : aged_entries sizes (state_of sizes nodes way) done ≡ served_in (option_to_list act.entry)
  pub tells : TellsMarks sizes (record { before = state_of sizes nodes way; event = event; done = without_ages done }) act.takes act.done sends act.marked
  pub rises : (bound : ℕ) → AreYoung bound nodes → AreFresh bound way → AreYoung (bound + 1) nodes' × (act.given ≤ bound)

-- an event is refused for this cause
abbrev pub IsRefusedIn : Sizes → List EagerView → UnderWay → Event → Cause → Type 0
IsRefusedIn sizes nodes way event cause = effect sizes (programs_of (programs_in nodes)) (state_of sizes nodes way) (ages_of nodes way) event ≡ Err cause
