-- After as many of the lines are handed out as the place says, the next one is the one at that place.
use Rattle.std.proofs.Common.{ℕ, List, sym, ap, ◌∙◌, arith}
use Rattle.std.specs.Prelude.{filter, slice_get}
use Rattle.op_model.specs.Run.Seeded.{lines_of}
use Rattle.dir_header.specs.HomeSides.{is_victim}
use Rattle.dir_header.proofs.Numbers.{past-end, element-at, first-at}
use Rattle.dir_header.proofs.home.HomeSide.victim_at.Goals as goal

pub loop-init : goal.loop-init
loop-init g c = sym c.victims-victims.ensures

pub loop-preserved : goal.loop-preserved
loop-preserved g c =
    let home = c.args.self.now in
    (element-at (filter (is_victim home) (lines_of home.sizes home.node)) c.loop.counter c.loop.victims c.next.new.self c.in_ok-next.field-0 c.loop.invariant c.in_ok-next.ensures).1

pub returns-in_err-next : goal.returns-in_err-next
returns-in_err-next g c =
    let home = c.args.self.now in
    c.from_residual.ensures ∙ past-end (filter (is_victim home) (lines_of home.sizes home.node)) c.loop.counter c.args.i c.loop.victims c.loop.invariant c.in_err-next.ensures (let t = c.loop-test.true in omega arith)

pub returns : goal.returns
returns g c =
    let home = c.args.self.now in
    let lines : List ℕ = filter (is_victim home) (lines_of home.sizes home.node) in
    first-at lines c.loop.counter c.loop.victims (λ _. c.next-2.new.self) c.next-2.result c.loop.invariant c.next-2.ensures
    ∙ ap (slice_get lines) (omega (arith, c.loop.auto.counter-end, c.loop-test.false))
