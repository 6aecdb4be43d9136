-- The schedule is under way from the start on, by the law that it ends. Each event is its next one, and where there is none it is made.
use Rattle.std.proofs.Common.{◌≡◌, IfSome, length, arith, ap, sym, ◌∙◌, subst}
use Rattle.std.proofs.lemmas.Result.{err_from_is_err_and}
use Rattle.op_model.specs.Run.Schedules.{IsSerial}
use Rattle.op_model.specs.Run.Machines.{MachineRun}
use Rattle.node_range.proofs.Public.{order-in, trace_in}
use Rattle.schedule.specs.Chosen.{AreOpsIn, IsOpIn}
use Rattle.schedule.specs.Made.{IsSerialRun, next_with}
use Rattle.schedule.proofs.Advances.{was-made, none-made}
use Rattle.schedule.proofs.UnderWay.{next_on, next-enabled, goes-on, stored-more, still-less, same-way}
use Rattle.schedule.proofs.Current.{completed-none, completed-still, op-at-in}
use Rattle.schedule.proofs.Serials.{IsSerialEnd, serial_by, most_in_all, order-ops, indexed, serial-begins, has-begun-serial, serial-run, serial-trace}
use Rattle.schedule.proofs.in_order.serial.Goals as goal

pub loop-steps-init : goal.loop-steps-init
loop-steps-init g c =
    let m = g.M.MachineFace.meaning c.args.m.now in
    let order = c.args.order.now in
    let running = c.cfg-cfg.ensures.kept in
    let none = ap length c.requires.unused in
    record {
      way = serial-begins m order running c.requires.ordered c.requires.unused (c.every_serial.ensures.ends m.charge (trace_in m.sizes order) running.sizes (order-in m.sizes m.programs running.programs order c.requires.ordered) (indexed m order running c.requires.ordered));
      within = omega arith;
      completed = completed-none order m.past.state;
      counted = omega (arith, none);
    }

pub first_uncompleted-at-requires-clause-ops : goal.first_uncompleted-at-requires-clause-ops
first_uncompleted-at-requires-clause-ops g c =
    let m = g.M.MachineFace.meaning c.args.m.now in
    subst (λ (n : MachineRun). AreOpsIn n.sizes c.args.order.now) (sym c.loop-steps.invariant.way.is) (order-ops m c.args.order.now c.cfg-cfg.ensures.kept c.requires.ordered)

pub advance-requires-clause-chosen : goal.advance-requires-clause-chosen
advance-requires-clause-chosen g c =
    let m = g.M.MachineFace.meaning c.args.m.now in
    let now = g.M.MachineFace.meaning c.loop-steps.m in
    let ops = subst (λ (n : MachineRun). AreOpsIn n.sizes c.args.order.now) (sym c.loop-steps.invariant.way.is) (order-ops m c.args.order.now c.cfg-cfg.ensures.kept c.requires.ordered) in
    subst (λ o. IfSome o (IsOpIn now.sizes)) (sym c.op_at-op.ensures) (op-at-in now.sizes c.args.order.now c.first_uncompleted-at.result ops)

pub advance-requires-clause-enabled : goal.advance-requires-clause-enabled
advance-requires-clause-enabled g c = λ event next.
    let first = g.M.MachineFace.meaning c.args.m.now in
    let now = g.M.MachineFace.meaning c.loop-steps.m in
    let order = c.args.order.now in
    let same : next_on (serial_by order) now ≡ next_with now c.op_at-op.result = ap (next_with now) (c.first_uncompleted-at.ensures.current ∙ sym c.op_at-op.ensures) in
    next-enabled (serial_by order) (IsSerialEnd order first) (most_in_all order first) first now c.loop-steps.invariant.way event (same ∙ next)

pub loop-steps-preserved : goal.loop-steps-preserved
loop-steps-preserved g c =
    let first = g.M.MachineFace.meaning c.args.m.now in
    let now = g.M.MachineFace.meaning c.loop-steps.m in
    let later = g.M.MachineFace.meaning c.advance.new.m in
    let order = c.args.order.now in
    let same : next_on (serial_by order) now ≡ next_with now c.op_at-op.result = ap (next_with now) (c.first_uncompleted-at.ensures.current ∙ sym c.op_at-op.ensures) in
    let made = was-made (next_with now c.op_at-op.result) now c.in_ok-advance.field-0 later c.if-not-branch.false c.in_ok-advance.ensures.ok in
    let more = stored-more (serial_by order) (IsSerialEnd order first) (most_in_all order first) first now made.0 later made.2 in
    record {
      way = goes-on (serial_by order) (IsSerialEnd order first) (most_in_all order first) first now c.loop-steps.invariant.way made.0 (same ∙ made.1) later made.2 c.in_ok-advance.ensures.kept;
      within = c.first_uncompleted-at.ensures.within;
      completed = completed-still order c.first_uncompleted-at.result now later made.0 made.2 c.first_uncompleted-at.ensures.completed;
      counted = omega (arith, more, c.loop-steps.invariant.counted, c.tick.ensures);
    }

pub loop-steps-smaller : goal.loop-steps-smaller
loop-steps-smaller g c =
    let first = g.M.MachineFace.meaning c.args.m.now in
    let now = g.M.MachineFace.meaning c.loop-steps.m in
    let later = g.M.MachineFace.meaning c.advance.new.m in
    let order = c.args.order.now in
    let same : next_on (serial_by order) now ≡ next_with now c.op_at-op.result = ap (next_with now) (c.first_uncompleted-at.ensures.current ∙ sym c.op_at-op.ensures) in
    let made = was-made (next_with now c.op_at-op.result) now c.in_ok-advance.field-0 later c.if-not-branch.false c.in_ok-advance.ensures.ok in
    let on = goes-on (serial_by order) (IsSerialEnd order first) (most_in_all order first) first now c.loop-steps.invariant.way made.0 (same ∙ made.1) later made.2 c.in_ok-advance.ensures.kept in
    still-less (serial_by order) (IsSerialEnd order first) (most_in_all order first) first now c.loop-steps.invariant.way made.0 later made.2 on

pub returns-in_err-advance-clause-err : goal.returns-in_err-advance-clause-err
returns-in_err-advance-clause-err g c =
    let first = g.M.MachineFace.meaning c.args.m.now in
    let later = g.M.MachineFace.meaning c.advance.new.m in
    let order = c.args.order.now in
    let p = err_from_is_err_and c.from_residual.result c.from_residual.ensures.1 in
    rw p.1 (has-begun-serial first order c.cfg-cfg.ensures.kept c.requires.ordered c.requires.unused later
    (same-way (serial_by order) (IsSerialEnd order first) (most_in_all order first) first (g.M.MachineFace.meaning c.loop-steps.m) later c.in_err-advance.ensures.err c.loop-steps.invariant.way))

pub returns-then-not-branch-clause-ok : goal.returns-then-not-branch-clause-ok
returns-then-not-branch-clause-ok g c =
    let first = g.M.MachineFace.meaning c.args.m.now in
    let now = g.M.MachineFace.meaning c.loop-steps.m in
    let later = g.M.MachineFace.meaning c.advance.new.m in
    let order = c.args.order.now in
    let same : next_on (serial_by order) now ≡ next_with now c.op_at-op.result = ap (next_with now) (c.first_uncompleted-at.ensures.current ∙ sym c.op_at-op.ensures) in
    let none = none-made (next_with now c.op_at-op.result) now c.in_ok-advance.field-0 later c.if-not-branch.true c.in_ok-advance.ensures.ok in
    subst (IsSerialRun order first) (sym none.1) (serial-run first order c.cfg-cfg.ensures.kept c.requires.ordered c.requires.unused now c.loop-steps.invariant.way (same ∙ none.0))

pub returns-then-not-branch-clause-trace : goal.returns-then-not-branch-clause-trace
returns-then-not-branch-clause-trace g c = λ trace sizes ops.
    let first = g.M.MachineFace.meaning c.args.m.now in
    let now = g.M.MachineFace.meaning c.loop-steps.m in
    let later = g.M.MachineFace.meaning c.advance.new.m in
    let order = c.args.order.now in
    let same : next_on (serial_by order) now ≡ next_with now c.op_at-op.result = ap (next_with now) (c.first_uncompleted-at.ensures.current ∙ sym c.op_at-op.ensures) in
    let none = none-made (next_with now c.op_at-op.result) now c.in_ok-advance.field-0 later c.if-not-branch.true c.in_ok-advance.ensures.ok in
    let run = serial-run first order c.cfg-cfg.ensures.kept c.requires.ordered c.requires.unused now c.loop-steps.invariant.way (same ∙ none.0) in
    subst (λ (r : MachineRun). IsSerial first.charge trace r.events r.past) (sym none.1) (serial-trace first order c.requires.ordered trace sizes ops now.events now.past run.serial)
