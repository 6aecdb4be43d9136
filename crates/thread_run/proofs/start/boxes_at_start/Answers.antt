-- Each box gets the next program and the next seat.
use Rattle.std.proofs.Common.{rules, ◌+◌, ◌<◌, ℕ, length, sym, ap, subst, ◌∙◌, arith, length-append, ◌∷◌, []}
use Rattle.line_map.specs.Sizes.{Sizes, AreSizes}
use Rattle.line_map.proofs.Public.{few-nodes}
use Rattle.op_model.specs.Parts.Part.{part_at_start}
use Rattle.op_model.specs.Programs.{IsProgramOf}
use Rattle.lane_table.specs.Views.{TableView, SeatView, IsSeatOf}
use Rattle.thread_run.proofs.Starting.{next_part, next_program, part_left, moved_on}
use Rattle.thread_run.proofs.start.boxes_at_start.Goals as goal

pub unreachable-requires : goal.unreachable-requires
unreachable-requires g c =
    part_left c.args.t.now.setup.sizes c.loop-program.number c.in-Some.program c.next.new.self.rest.items c.loop-program.program-iterator.rest.items c.loop-program.seats.parts c.loop-program.invariant.parts c.in-Some.ensures.steps.0 c.in_default.ensures.seat

pub new_box-requires : goal.new_box-requires
new_box-requires g c =
    let sizes : Sizes = c.args.t.now.setup.sizes in
    let inv = c.loop-program.invariant in
    let seat : SeatView = c.in-Some-next.seat in
    let number : ℕ = c.loop-program.number in
    let left = c.loop-program.program-iterator.rest.items in
    let rest = c.next.new.self.rest.items in
    let next = next_program sizes c.args.programs.items c.loop-program.yielded rest left number c.in-Some.program c.requires.programs inv.split c.in-Some.ensures.steps.0 inv.count in
    let part = next_part sizes number c.in-Some.program rest left c.loop-program.seats.parts c.next-in-loop-program.new.self.parts seat.part inv.parts c.in-Some.ensures.steps.0 c.in-Some-next.ensures.seat.0 in
    let cfg = sym c.cfg-cfg.ensures.value in
    record {
      sized = subst AreSizes cfg c.cfg-cfg.ensures.sized;
      numbered = subst (λ (z : Sizes). number < z.nodes) cfg next.below;
      program = subst (λ (z : Sizes). IsProgramOf z number c.in-Some.program) cfg next.own;
      seat = subst (λ (t : TableView). IsSeatOf t seat) c.requires.table c.in-Some-next.ensures.seat.1;
      part = part.0 ∙ ap (λ (z : Sizes). part_at_start z number c.in-Some.program) cfg;
    }

pub overflow_add-number : goal.overflow_add-number
overflow_add-number g c =
    let inv = c.loop-program.invariant in
    let sizes : Sizes = c.args.t.now.setup.sizes in
    let next = next_program sizes c.args.programs.items c.loop-program.yielded c.next.new.self.rest.items c.loop-program.program-iterator.rest.items c.loop-program.number c.in-Some.program c.requires.programs inv.split c.in-Some.ensures.steps.0 inv.count in
    let below = next.below in
    let few = few-nodes sizes c.cfg-cfg.ensures.sized in
    omega arith

pub loop-program-preserved : goal.loop-program-preserved
loop-program-preserved g c =
    let sizes : Sizes = c.args.t.now.setup.sizes in
    let inv = c.loop-program.invariant in
    let left = c.loop-program.program-iterator.rest.items in
    let rest = c.next.new.self.rest.items in
    record {
      split = moved_on c.args.programs.items c.loop-program.yielded left rest c.in-Some.program inv.split c.in-Some.ensures.steps.0;
      count = length-append c.loop-program.yielded (c.in-Some.program ∷ []) ∙ ap (λ n. n + 1) inv.count;
      made = search rules;
      parts = (next_part sizes c.loop-program.number c.in-Some.program rest left c.loop-program.seats.parts c.next-in-loop-program.new.self.parts c.in-Some-next.seat.part inv.parts c.in-Some.ensures.steps.0 c.in-Some-next.ensures.seat.0).1;
      seats = c.next-in-loop-program.ensures.rest;
    }

pub returns : goal.returns
returns g c =
    let inv = c.loop-program.invariant in
    let none = sym c.loop-program.program-iterator.rest.ok.0 ∙ c.in-None.ensures.steps.0 in
    let all = ap length inv.split in
    let parts = length-append c.loop-program.yielded c.loop-program.program-iterator.rest.items in
    let count = c.requires.programs.count in
    omega (arith, none, all, parts, count, inv.count, inv.made)
