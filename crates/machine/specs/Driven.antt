-- The machine as those who drive it see it: with what its run comes to.
use Rattle.std.specs.Prelude.{Option, Some, None}
use Rattle.op_model.specs.Run.Runs.{Past, start}
use Rattle.op_model.specs.Run.Machines.{MachineRun}
use Rattle.op_model.specs.Programs.{programs_of}
use Rattle.machine.specs.Machines.{MachineView, run_of}

abbrev pub past_or : Past → Option Past → Past
past_or first None = first
past_or first (Some past) = past

abbrev pub run_made : {D : Type 0} → MachineView D → MachineRun
run_made view = record { charge = view.charge; sizes = view.sizes; programs = programs_of view.programs; events = view.events; past = past_or (start view.sizes) (run_of view) }
