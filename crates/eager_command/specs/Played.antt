-- The machine of a trace in the eager core, and what it has made.
use Rattle.std.specs.Prelude.{◌≡◌, List, Some}
use Rattle.op_model.specs.declared.events.Event.{Event}
use Rattle.op_model.specs.Shares.{Trace}
use Rattle.trace_text.specs.Traces.{programs_of}
use Rattle.eager_model.specs.Runs.{Past, run}
use Rattle.eager_machine.specs.Machines.{EagerMachineView}
use Rattle.command_words.specs.declared.command.EagerPlay.{EagerPlay}
use Rattle.eager_command.specs.Outputs.{AreEagerEvents}

-- the machine of a trace that has made these events
abbrev pub machine_of : Trace → List Event → EagerMachineView
machine_of trace events = record { sizes = trace.sizes; programs = programs_of trace; events = events }

-- the machine of a trace has made these events, and they run
pub record HasMade (trace : Trace) (events : List Event) (machine : EagerMachineView) : Type 0 where
  pub is : machine ≡ machine_of trace events
  pub past : Past
  pub ran : run trace events ≡ Some past

-- it has made the run of a command
pub record IsPlayed (play : EagerPlay) (trace : Trace) (machine : EagerMachineView) : Type 0 where
  pub has : HasMade trace machine.events machine
  pub made : AreEagerEvents play trace machine.events has.past
