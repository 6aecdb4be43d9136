-- A look takes nothing.
use Rattle.std.proofs.Common.{sym, ap, ◌∙◌}
use Rattle.op_model.specs.declared.events.Class.TheVariants.{Request}
use Rattle.op_model.specs.Parts.Part.{Part, taken_from, cleared_from}
use Rattle.lane_table.proofs.Public.{only_notes}
use Rattle.seat_rows.proofs.seats.looks.Goals as goal

pub loop-preserved : goal.loop-preserved
loop-preserved c =
    let same = only_notes c.loop.zero.part c.look.new.self.part 1 Request c.look.result c.look.ensures.none c.look.ensures.some in
    record {
      seat = c.look.ensures.seat;
      ready = ap (λ (x : Part). taken_from x 1 Request) same.1 ∙ (c.loop.invariant.ready ∙ sym (ap (λ (x : Part). cleared_from x 1 Request) same.1));
    }
