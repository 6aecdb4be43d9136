-- The schedule is under way from the first moment on, by the law that it ends. Each event is its next one, and where there is none it is made.
use Rattle.std.proofs.Common.{◌≡◌, ◌≤◌, refl, arith, ap, sym, ◌∙◌, subst}
use Rattle.std.proofs.lemmas.Result.{err_from_is_err_and}
use Rattle.op_model.specs.Run.Schedules.{finishing_next}
use Rattle.op_model.specs.Run.Machines.{MachineRun}
use Rattle.node_range.proofs.Public.{turn-in}
use Rattle.schedule.specs.Made.{HasFinished, most_to_finish, next_with}
use Rattle.schedule.proofs.Advances.{was-made, none-made}
use Rattle.schedule.proofs.Chosen.{done-still}
use Rattle.schedule.proofs.UnderWay.{next_on, next-enabled, goes-on, stored-more, same-way}
use Rattle.schedule.proofs.Finishes.{IsEnd, turn, turn-ran, begins, has-begun, has-finished}
use Rattle.schedule.proofs.finishing.finish.Goals as goal

pub loop-steps-init : goal.loop-steps-init
loop-steps-init g c =
    let m = g.M.MachineFace.meaning c.args.m.now in
    let running = c.cfg-cfg.ensures.kept in
    record {
      way = begins m running (c.every_finish.ensures.ends m.charge (turn m) m.events m.past running.sizes (turn-in m.sizes m.programs running.programs) (turn-ran m running));
      within = omega arith;
      done = λ node below. absurd (omega arith);
      counted = refl;
    }

pub advance-requires-clause-enabled : goal.advance-requires-clause-enabled
advance-requires-clause-enabled g c = λ event next.
    let meaning = g.M.MachineFace.meaning in
    let now = meaning c.loop-steps.m in
    let same : next_on finishing_next now ≡ next_with now c.next_op_of-op.result = ap (next_with now) (c.first_unfinished-node.ensures.first ∙ sym c.next_op_of-op.ensures.value) in
    next-enabled finishing_next (IsEnd (meaning c.args.m.now)) (most_to_finish (meaning c.args.m.now)) (meaning c.args.m.now) now c.loop-steps.invariant.way event (same ∙ next)

pub loop-steps-preserved : goal.loop-steps-preserved
loop-steps-preserved g c =
    let meaning = g.M.MachineFace.meaning in
    let first = meaning c.args.m.now in
    let now = meaning c.loop-steps.m in
    let later = meaning c.advance.new.m in
    let same : next_on finishing_next now ≡ next_with now c.next_op_of-op.result = ap (next_with now) (c.first_unfinished-node.ensures.first ∙ sym c.next_op_of-op.ensures.value) in
    let made = was-made (next_with now c.next_op_of-op.result) now c.in_ok-advance.field-0 later c.if-not-branch.false c.in_ok-advance.ensures.ok in
    let more = stored-more finishing_next (IsEnd first) (most_to_finish first) first now made.0 later made.2 in
    record {
      way = goes-on finishing_next (IsEnd first) (most_to_finish first) first now c.loop-steps.invariant.way made.0 (same ∙ made.1) later made.2 c.in_ok-advance.ensures.kept;
      within = subst (λ (r : MachineRun). c.first_unfinished-node.result ≤ r.sizes.nodes) (sym made.2.2) c.first_unfinished-node.ensures.within;
      done = done-still now later made.0 c.first_unfinished-node.result made.2 c.first_unfinished-node.ensures.done;
      counted = omega (arith, more, c.loop-steps.invariant.counted, c.tick.ensures);
    }

pub returns-in_err-advance-clause-err : goal.returns-in_err-advance-clause-err
returns-in_err-advance-clause-err g c =
    let meaning = g.M.MachineFace.meaning in
    let first = meaning c.args.m.now in
    let p = err_from_is_err_and c.from_residual.result c.from_residual.ensures.1 in
    rw p.1 (has-begun first (meaning c.advance.new.m) (same-way finishing_next (IsEnd first) (most_to_finish first) first (meaning c.loop-steps.m) (meaning c.advance.new.m) c.in_err-advance.ensures.err c.loop-steps.invariant.way))

pub returns-then-not-branch-clause-ok : goal.returns-then-not-branch-clause-ok
returns-then-not-branch-clause-ok g c =
    let meaning = g.M.MachineFace.meaning in
    let now = meaning c.loop-steps.m in
    let same : next_on finishing_next now ≡ next_with now c.next_op_of-op.result = ap (next_with now) (c.first_unfinished-node.ensures.first ∙ sym c.next_op_of-op.ensures.value) in
    let none = none-made (next_with now c.next_op_of-op.result) now c.in_ok-advance.field-0 (meaning c.advance.new.m) c.if-not-branch.true c.in_ok-advance.ensures.ok in
    subst (HasFinished (meaning c.args.m.now)) (sym none.1) (has-finished (meaning c.args.m.now) now c.loop-steps.invariant.way (same ∙ none.0))
