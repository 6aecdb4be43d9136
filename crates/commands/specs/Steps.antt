-- The steps of a trace, made one after another.
use Rattle.std.specs.Prelude.{◌≡◌, ℕ, ◌+◌, List, ◌++◌, slice_get, take, Some, Err}
use Rattle.op_model.specs.declared.events.Cause.{Cause}
use Rattle.op_model.specs.declared.events.Event.{Event}
use Rattle.op_model.specs.Events.Step.{effect}
use Rattle.op_model.specs.Run.Machines.{MachineRun, IsEventOf}
use Rattle.op_model.specs.Run.Runs.{Past, run_by}
use Rattle.commands.specs.declared.replaying.ReplayError.{ReplayError}
use Rattle.commands.specs.declared.replaying.ReplayError.TheVariants.{NotEnabled, Memory}
use Rattle.machine_face.specs.declared.refusal.ApplyError.{ApplyError}
use Rattle.machine_face.specs.declared.refusal.ApplyError.TheVariants as apply

-- each step names nodes and lines of the machine
abbrev pub AreStepsOf : MachineRun → List Event → Type 0
AreStepsOf m steps = (i : ℕ) (event : Event) → slice_get steps i ≡ Some event → IsEventOf m.sizes event

-- the machine has made these steps behind its own events
pub record HasMade (old : MachineRun) (steps : List Event) (new : MachineRun) : Type 0 where
  pub went : new ≡ record old { events = old.events ++ steps; past = new.past }
  pub ran : run_by old.charge old.sizes old.programs old.past steps ≡ Some new.past

-- the step of this number, from 1, is refused for this cause, its first one, behind the steps before it, which run
pub record IsRefusedAt (m : MachineRun) (steps : List Event) (step : ℕ) (cause : Cause) : Type 0 where
  pub before : ℕ
  pub number : step ≡ before + 1
  pub moment : Past
  pub ran : run_by m.charge m.sizes m.programs m.past (take before steps) ≡ Some moment
  pub event : Event
  pub next : slice_get steps before ≡ Some event
  pub refused : effect m.charge m.sizes m.programs moment.state event ≡ Err cause

-- why the steps weren't all made. Want of memory says nothing of them
abbrev pub IsStopped : MachineRun → List Event → ReplayError → Type 0
IsStopped m steps (NotEnabled step cause) = IsRefusedAt m steps step cause
IsStopped m steps Memory = Unit {0}

-- how a machine that refuses the step of this number stops a replay
abbrev pub stopped_at : ℕ → ApplyError → ReplayError
stopped_at step (apply.NotEnabled cause) = NotEnabled step cause
stopped_at step apply.Memory = Memory
