-- A machine as contracts see it: its sizes, the programs of its nodes, whether lists cost links, the events that it stored, and its directories.
use Rattle.std.specs.Prelude.{◌≡◌, ℕ, ◌<◌, ◌≤◌, List, [], length, Option, Some, Result, Ok, Err}
use Rattle.std.specs.List.{flat_map}
use Rattle.line_map.specs.Sizes.{Sizes, AreSizes}
use Rattle.op_model.specs.declared.events.Cause.{Cause}
use Rattle.op_model.specs.declared.events.Event.{Event}
use Rattle.op_model.specs.declared.operations.Op.{Op}
use Rattle.op_model.specs.Shares.{Trace, Charge, State}
use Rattle.op_model.specs.Events.Step.{Done, effect, after, IsTake}
use Rattle.op_model.specs.Run.Runs.{Past, past_after, start, run_by}
use Rattle.op_model.specs.Run.Weight.{weight}
use Rattle.machine_face.specs.declared.refusal.ApplyError.{ApplyError}
use Rattle.op_model.specs.Programs.{ArePrograms, programs_of}
use Rattle.machine_face.specs.declared.refusal.ApplyError.TheVariants.{NotEnabled, Memory}

pub record MachineView (D : Type 0) : Type 0 where
  pub sizes : Sizes
  pub programs : List (List Op)
  pub charge : Charge
  pub events : List Event
  pub dirs : List D

-- the operations of all nodes, node by node, as a trace
abbrev pub trace_of : {D : Type 0} → MachineView D → Trace
trace_of view = record { version = 2; sizes = view.sizes; ops = flat_map (λ program. program) view.programs; steps = [] }

-- the run that the machine has made
abbrev pub run_of : {D : Type 0} → MachineView D → Option Past
run_of view = run_by view.charge view.sizes (programs_of view.programs) (start view.sizes) view.events

-- what an event does in a state of the machine, or the first cause for which it is refused
abbrev pub effect_in : {D : Type 0} → MachineView D → State → Event → Result Done Cause
effect_in view state event = effect view.charge view.sizes (programs_of view.programs) state event

-- every program is done: no node has an operation left
abbrev pub AreAllDone : {D : Type 0} → MachineView D → State → Type 0
AreAllDone view state = (node : ℕ) → length (programs_of view.programs node) ≤ (state.share node).place

-- what an event makes of the run. A message that is taken weighs more than all that are sent for it
pub record IsNext {D : Type 0} (old new : MachineView D) (past : Past) (event : Event) : Type 0 where
  pub done : Done
  pub does : effect_in old past.state event ≡ Ok done
  pub ran : run_of new ≡ Some (past_after old.sizes past done)
  pub lighter : IsTake event → weight old.sizes (after past.state done) < weight old.sizes past.state

-- what holds of each machine: its sizes are within their limits, each node has its program, and the events run
pub record IsMachine {D : Type 0} (view : MachineView D) : Type 0 where
  pub sizes_are : AreSizes view.sizes
  pub programs_are : ArePrograms view.sizes view.programs
  pub past : Past
  pub ran : run_of view ≡ Some past

-- a refusal is for the first cause of the event in this state. Want of memory says nothing of it
abbrev pub IsRefusedFor : {D : Type 0} → MachineView D → State → Event → ApplyError → Type 0
IsRefusedFor view state event (NotEnabled cause) = effect_in view state event ≡ Err cause
IsRefusedFor view state event Memory = Unit {0}
