use Rattle.std.proofs.Common.{◌≡◌, ℕ, List, Some}
use Rattle.std.specs.Prelude.{slice_get}
use Rattle.op_model.specs.declared.operations.Op.{Op}
use Rattle.op_model.specs.Programs.{IsProgramOf}
use Rattle.seat_rows.proofs.boxes.programs_of.Given as goal

abbrev pub invariant-loop-ops : goal.invariant-loop-ops
invariant-loop-ops g l = (node : ℕ) (program : List Op) → slice_get l.all.items node ≡ Some program → IsProgramOf l.cfg node program
