-- A machine of the eager core as contracts see it: its sizes, the programs of its nodes, and the events that it stored.
use Rattle.std.specs.Prelude.{◌≡◌, ◌<◌, ℕ, List, [], Option, Some, Result, Ok, Err}
use Rattle.std.specs.List.{flat_map}
use Rattle.line_map.specs.Sizes.{Sizes, AreSizes}
use Rattle.op_model.specs.declared.events.Cause.{Cause}
use Rattle.op_model.specs.declared.events.Event.{Event}
use Rattle.op_model.specs.declared.operations.Op.{Op}
use Rattle.op_model.specs.Shares.{Trace, State}
use Rattle.op_model.specs.Events.Step.{after, IsTake}
use Rattle.op_model.specs.Programs.{ArePrograms, programs_of}
use Rattle.op_model.specs.Run.Weight.{weight}
use Rattle.eager_model.specs.Runs.{Past, past_after, start, run_by}
use Rattle.eager_model.specs.Step.{AgedDone, effect, without_ages}
use Rattle.eager_home.specs.Views.{EagerView}
use Rattle.machine_face.specs.declared.refusal.ApplyError.{ApplyError}
use Rattle.machine_face.specs.declared.refusal.ApplyError.TheVariants.{NotEnabled, Memory}

pub record EagerMachineView : Type 0 where
  pub sizes : Sizes
  pub programs : List (List Op)
  pub events : List Event

-- the operations of all nodes, node by node, as a trace
abbrev pub trace_of : EagerMachineView → Trace
trace_of view = record { version = 2; sizes = view.sizes; ops = flat_map (λ program. program) view.programs; steps = [] }

-- the run that the machine has made
abbrev pub run_of : EagerMachineView → Option Past
run_of view = run_by view.sizes (programs_of view.programs) (start view.sizes) view.events

-- what an event does behind a run of the machine, or the first cause for which it is refused
abbrev pub effect_in : EagerMachineView → Past → Event → Result AgedDone Cause
effect_in view past event = effect view.sizes (programs_of view.programs) past.state past.ages event

-- what an event makes of the run. A message that is taken weighs more than all that are sent for it
pub record IsNext (old new : EagerMachineView) (past : Past) (event : Event) : Type 0 where
  pub done : AgedDone
  pub does : effect_in old past event ≡ Ok done
  pub ran : run_of new ≡ Some (past_after old.sizes past done)
  pub lighter : IsTake event → weight old.sizes (after past.state (without_ages done)) < weight old.sizes past.state

-- what holds of each machine: its sizes are within their limits, each node has its program, and the events run
pub record IsMachine (view : EagerMachineView) : Type 0 where
  pub sizes_are : AreSizes view.sizes
  pub programs_are : ArePrograms view.sizes view.programs
  pub past : Past
  pub ran : run_of view ≡ Some past

-- a refusal is for the first cause of the event behind this run. Want of memory says nothing of it
abbrev pub IsRefusedFor : EagerMachineView → Past → Event → ApplyError → Type 0
IsRefusedFor view past event (NotEnabled cause) = effect_in view past event ≡ Err cause
IsRefusedFor view past event Memory = Unit {0}

-- an event is enabled behind the run of a machine
pub record IsEnabled (view : EagerMachineView) (event : Event) : Type 0 where
  pub past : Past
  pub ran : run_of view ≡ Some past
  pub done : AgedDone
  pub does : effect_in view past event ≡ Ok done

-- a node of the machine in this state
pub record IsNodeIn (view : EagerMachineView) (state : State) (number : ℕ) (node : EagerView) : Type 0 where
  pub sizes_are : node.sizes ≡ view.sizes
  pub number_is : node.number ≡ number
  pub program_is : node.program ≡ programs_of view.programs number
  pub share_is : node.share ≡ state.share number
