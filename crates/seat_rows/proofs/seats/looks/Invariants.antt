use Rattle.std.proofs.Common.{◌≡◌}
use Rattle.op_model.specs.declared.events.Class.TheVariants.{Request}
use Rattle.op_model.specs.Parts.Part.{taken_from, cleared_from}
use Rattle.lane_table.specs.Views.{IsSeatOf}
use Rattle.seat_rows.proofs.seats.looks.Given as goal

abbrev pub invariant-loop : goal.invariant-loop
invariant-loop l = record { seat : IsSeatOf l.t l.zero; ready : taken_from l.zero.part 1 Request ≡ cleared_from l.zero.part 1 Request }
