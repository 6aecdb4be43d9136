-- The nodes at the start.
use Rattle.std.specs.Prelude.{◌≡◌, ℕ, List, replicate, slice_get, Some}
use Rattle.line_map.specs.Sizes.{Sizes}
use Rattle.op_model.specs.declared.operations.Op.{Op}
use Rattle.op_model.specs.Programs.{IsProgramOf}
use Rattle.op_model.specs.Run.Runs.{start_share}
use Rattle.eager_home.specs.Views.{EagerView}
use Rattle.eager_machine.specs.Kept.{programs_in}

-- a node that has done nothing, with all its ages 0
abbrev pub start_view : Sizes → ℕ → List Op → EagerView
start_view sizes node program = record { sizes = sizes; number = node; program = program; share = start_share sizes node; copy_ages = replicate sizes.sets 0; memory_ages = replicate sizes.lines 0 }

-- a node of the machine that has done nothing
pub record IsNewAt (sizes : Sizes) (node : ℕ) (view : EagerView) : Type 0 where
  pub new : view ≡ start_view sizes node view.program
  pub program : IsProgramOf sizes node view.program

-- one node a number, none of which has done anything
pub record AreNew (sizes : Sizes) (programs : List (List Op)) (nodes : List EagerView) : Type 0 where
  pub each : (node : ℕ) (view : EagerView) → slice_get nodes node ≡ Some view → IsNewAt sizes node view
  pub programs_are : programs_in nodes ≡ programs
