-- What a table is told when it is made: the machine, and the program of each node.
use Rattle.std.specs.Prelude.{List, Option}
use Rattle.line_map.specs.Sizes.{Sizes}
use Rattle.op_model.specs.declared.operations.Op.{Op}
use Rattle.op_model.specs.declared.events.Event.{Event}
use Rattle.op_model.specs.Shares.{Linked}
use Rattle.op_model.specs.Programs.{programs_of}
use Rattle.op_model.specs.Run.Runs.{Past, start, run_by}

pub record Setup : Type 0 where
  pub sizes : Sizes
  pub programs : List (List Op)

-- the run of these events on that machine, whose lists cost links
abbrev pub run_in : Setup → List Event → Option Past
run_in setup events = run_by Linked setup.sizes (programs_of setup.programs) (start setup.sizes) events
