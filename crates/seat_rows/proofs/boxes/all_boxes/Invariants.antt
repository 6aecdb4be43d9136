use Rattle.std.proofs.Common.{◌≡◌, ℕ, ◌+◌, List, length, Some}
use Rattle.std.specs.Prelude.{slice_get}
use Rattle.op_model.specs.declared.operations.Op.{Op}
use Rattle.op_model.specs.Programs.{IsProgramOf}
use Rattle.lane_table.specs.Rule.{parts_from}
use Rattle.lane_table.specs.Views.{AreSeatsOf}
use Rattle.seat_rows.proofs.boxes.all_boxes.Given as goal

-- the seats that are left are those of the programs that are left
abbrev pub invariant-loop-alloc : goal.invariant-loop-alloc
invariant-loop-alloc g l = record {
  seats : AreSeatsOf l.t l.seats;
  parts : l.seats.parts ≡ parts_from l.t.setup.sizes l.node l.programs.items;
  each : (i : ℕ) (program : List Op) → slice_get l.programs.items i ≡ Some program → IsProgramOf l.t.setup.sizes (l.node + i) program;
  count : l.node + length l.programs.items ≡ l.t.setup.sizes.nodes;
}

abbrev pub decreases-loop-alloc : goal.decreases-loop-alloc
decreases-loop-alloc g l = length l.programs.items
