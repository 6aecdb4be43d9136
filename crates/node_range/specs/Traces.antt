-- A trace of given programs.
use Rattle.std.specs.Prelude.{◌≡◌, ℕ, slice_get, Some}
use Rattle.line_map.specs.Sizes.{Sizes}
use Rattle.op_model.specs.declared.operations.Op.{Op}
use Rattle.op_model.specs.Events.Step.{Programs}
use Rattle.op_model.specs.Programs.{IsOrderOf}
use Rattle.op_model.specs.Run.Machines.{IsProgramOp}
use Rattle.op_model.specs.Shares.{Trace}

-- programs of the nodes of a machine
abbrev pub AreProgramsIn : Sizes → Programs → Type 0
AreProgramsIn sizes programs = (node place : ℕ) (op : Op) → slice_get (programs node) place ≡ Some op → IsProgramOp sizes node place op

-- A trace of these sizes, in which the operations of each node are its program
pub record IsTraceOf (sizes : Sizes) (programs : Programs) (trace : Trace) : Type 0 where
  pub sized : trace.sizes ≡ sizes
  pub ordered : IsOrderOf programs trace.ops
