-- The seeded schedule of the command, as far as a machine has made it.
use Rattle.std.specs.Prelude.{◌≡◌, ℕ, List, ◌++◌}
use Rattle.op_model.specs.declared.events.Event.{Event}
use Rattle.op_model.specs.Run.Machines.{MachineRun}
use Rattle.op_model.specs.Run.Runs.{Past}
use Rattle.op_model.specs.Shares.{Charge, Trace}
use Rattle.seeded_laws.specs.Command.{IsSeededRun}

-- a machine has made events only
abbrev pub HasOnlyRun : MachineRun → MachineRun → Type 0
HasOnlyRun old new = new ≡ record old { events = new.events; past = new.past }

-- These events are the first ones of the seeded schedule, and these are left of it
pub record HasBegunSeededRun (charge : Charge) (trace : Trace) (seed : ℕ) (events : List Event) : Type 0 where
  pub left : List Event
  pub end : Past
  pub seeded : IsSeededRun charge trace seed (events ++ left) end
