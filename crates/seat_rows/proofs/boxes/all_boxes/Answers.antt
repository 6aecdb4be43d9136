use Rattle.std.proofs.Common.{rules, ◌<◌, length, sym, subst}
use Rattle.op_model.specs.Programs.{IsProgramOf}
use Rattle.seat_rows.proofs.Samples.{first_taken, left_parts, its_program, left_programs, left_count}
use Rattle.seat_rows.proofs.boxes.all_boxes.Goals as goal

pub boxed-requires-clause-program : goal.boxed-requires-clause-program
boxed-requires-clause-program g c =
    let some : 0 < length c.loop-alloc.programs.items = search rules in
    let cut = first_taken c.loop-alloc.programs.items c.remove-program.new.self.items c.remove-program.result some c.remove-program.ensures.value c.remove-program.ensures.items in
    subst (λ z. IsProgramOf z c.loop-alloc.node c.remove-program.result) (sym c.cfg.ensures.value)
    (its_program c.args.t.now.setup.sizes c.loop-alloc.node c.loop-alloc.programs.items c.remove-program.new.self.items c.remove-program.result cut c.loop-alloc.invariant.each)

pub loop-alloc-preserved : goal.loop-alloc-preserved
loop-alloc-preserved g c =
    let sizes = c.args.t.now.setup.sizes in
    let node = c.loop-alloc.node in
    let programs = c.loop-alloc.programs.items in
    let rest = c.remove-program.new.self.items in
    let program = c.remove-program.result in
    let some : 0 < length programs = search rules in
    let cut = first_taken programs rest program some c.remove-program.ensures.value c.remove-program.ensures.items in
    record {
      seats = c.next.ensures.rest;
      parts = left_parts sizes node programs rest program cut c.loop-alloc.seats.parts c.next.new.self.parts c.in-Some.seat.part c.loop-alloc.invariant.parts c.in-Some.ensures.seat.0;
      each = left_programs sizes node programs rest program cut c.loop-alloc.invariant.each;
      count = left_count sizes node programs rest program cut c.loop-alloc.invariant.count;
    }
