use Rattle.op_model.specs.Programs.{IsProgramOf}
use Rattle.seat_rows.proofs.boxes.program_of.Given as goal

abbrev pub invariant-loop-op : goal.invariant-loop-op
invariant-loop-op g l = IsProgramOf l.cfg l.node l.program
