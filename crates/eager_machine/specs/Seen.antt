-- The machine as its text reads it: with what its run has come to.
use Rattle.std.specs.Prelude.{unwrap_or}
use Rattle.op_model.specs.Programs.{programs_of}
use Rattle.eager_model.specs.Runs.{start}
use Rattle.eager_report.specs.Machines.{EagerSeen}
use Rattle.eager_machine.specs.Machines.{EagerMachineView, run_of}

abbrev pub seen_of : EagerMachineView → EagerSeen
seen_of view = record { sizes = view.sizes; programs = programs_of view.programs; events = view.events; past = unwrap_or (run_of view) (start view.sizes) }
