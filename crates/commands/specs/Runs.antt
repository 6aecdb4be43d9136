-- What each command makes of a trace: a run of it, and the text of the run.
use Rattle.std.specs.Prelude.{◌≡◌, ℕ, List, [], length, Some}
use Rattle.op_model.specs.declared.events.Cause.{Cause}
use Rattle.op_model.specs.declared.events.Event.{Event}
use Rattle.op_model.specs.Shares.{Trace, program, Charge}
use Rattle.op_model.specs.Run.History.{history, AreEntriesOf, IsOneHistory}
use Rattle.op_model.specs.Run.Machines.{MachineRun}
use Rattle.op_model.specs.Run.Rest.{IsAtRest}
use Rattle.op_model.specs.Run.Runs.{Past, start, run}
use Rattle.op_model.specs.Run.Schedules.{IsSerial}
use Rattle.seeded_laws.specs.Command.{IsSeededRun}
use Rattle.dir_report.specs.Machines.{report_of}
use Rattle.dir_report.specs.Summaries.{summary_text}
use Rattle.command_words.specs.declared.command.Play.{Play}
use Rattle.command_words.specs.declared.command.Play.TheVariants.{Serial, Seeded, Replay, Gen}
use Rattle.commands.specs.declared.replaying.ReplayError.{ReplayError}
use Rattle.commands.specs.declared.replaying.ReplayError.TheVariants as error
use Rattle.commands.specs.Steps.{IsRefusedAt}

-- every operation of the trace is completed, and the last state is at rest
pub record IsWhole (trace : Trace) (past : Past) : Type 0 where
  pub completed : (node : ℕ) → (past.state.share node).place ≡ length (program trace node)
  pub rests : IsAtRest past.state

-- the events are the serial schedule, and the history is the trace's operations in the order of the trace
pub record IsSerialRun (charge : Charge) (trace : Trace) (events : List Event) (past : Past) : Type 0 where
  pub serial : IsSerial charge trace events past
  pub in_order : AreEntriesOf trace.ops (history past)
  pub whole : IsWhole trace past

-- the events are the seeded schedule of this seed
pub record IsSeededWhole (charge : Charge) (seed : ℕ) (trace : Trace) (events : List Event) (past : Past) : Type 0 where
  pub seeded : IsSeededRun charge trace seed events past
  pub whole : IsWhole trace past

-- which events a command makes: those of a schedule, or the trace's own steps
abbrev pub AreEventsFor : Play → Charge → Trace → List Event → Past → Type 0
AreEventsFor Serial charge trace events past = IsSerialRun charge trace events past
AreEventsFor (Seeded seed) charge trace events past = IsSeededWhole charge seed trace events past
AreEventsFor Replay charge trace events past = events ≡ trace.steps
AreEventsFor (Gen count seed) charge trace events past = IsSerialRun charge trace events past

-- the machine of a trace that has made these events
abbrev pub machine_after : Charge → Trace → List Event → Past → MachineRun
machine_after charge trace events past = record { charge = charge; sizes = trace.sizes; programs = program trace; events = events; past = past }

-- the machine of a trace at its start
abbrev pub machine_at_start : Charge → Trace → MachineRun
machine_at_start charge trace = machine_after charge trace [] (start trace.sizes)

-- what a command writes of a run: its report, or its summary
abbrev pub text_for : Play → Trace → MachineRun → List ℕ
text_for (Gen count seed) trace m = summary_text m
text_for play trace m = report_of trace.version m

-- The text is that of the command's run of the trace: the events run from the start, each enabled at its place, and the completed
-- operations are one history of one flat memory
pub record IsOutput (play : Play) (charge : Charge) (trace : Trace) (text : List ℕ) : Type 0 where
  pub events : List Event
  pub past : Past
  pub made : AreEventsFor play charge trace events past
  pub ran : run charge trace events ≡ Some past
  pub one : IsOneHistory charge trace events past
  pub printed : text ≡ text_for play trace (machine_after charge trace events past)

-- a command that runs the trace's own steps comes to one that isn't enabled: the first such step, with its first cause
abbrev pub IsRefusedIn : Play → Charge → Trace → ℕ → Cause → Type 0
IsRefusedIn Replay charge trace step cause = IsRefusedAt (machine_at_start charge trace) trace.steps step cause
IsRefusedIn play charge trace step cause = ⊥

-- why there is no text. Want of memory says nothing of the trace
abbrev pub IsStoppedIn : Play → Charge → Trace → ReplayError → Type 0
IsStoppedIn play charge trace (error.NotEnabled step cause) = IsRefusedIn play charge trace step cause
IsStoppedIn play charge trace error.Memory = Unit {0}

-- a machine has made the run of a command
pub record IsPlayed (play : Play) (trace : Trace) (charge : Charge) (m : MachineRun) : Type 0 where
  pub is : m ≡ machine_after charge trace m.events m.past
  pub made : AreEventsFor play charge trace m.events m.past
  pub ran : run charge trace m.events ≡ Some m.past
