-- Each turn makes one step more and notes it, or is refused there.
use Rattle.std.proofs.Common.{ap, ◌+◌, subst, sym, ◌∙◌, ℕ, get_or, arith}
use Rattle.op_model.specs.declared.events.Event.{Event}
use Rattle.op_model.specs.declared.events.Event.TheVariants.{Hit}
use Rattle.commands.specs.Steps.{IsStopped, stopped_at}
use Rattle.commands.proofs.Public.{one-more, refused-here}
use Rattle.chart_command.proofs.Drawn.{step-of, still-of, still-below, noted-on}
use Rattle.chart_command.proofs.charting.replay_charted.Goals as goal

pub returns-in-Err-clause-stopped : goal.returns-in-Err-clause-stopped
returns-in-Err-clause-stopped g c =
    subst (IsStopped (g.M.MachineFace.meaning c.args.m.now) c.args.steps.now) (ap (λ (n : ℕ). stopped_at (n + 1) c.in-Err.error) (sym c.loop-step.invariant.counted) ∙ sym c.stopped.ensures)
    (refused-here (g.M.MachineFace.meaning c.args.m.now) (g.M.MachineFace.meaning c.loop-step.m) c.args.steps.now c.loop-step.step-index (Hit 0) c.loop-step-test.true c.loop-step.invariant.made c.in-Err.error c.in-Err.ensures.refused)

pub note-requires-clause-event : goal.note-requires-clause-event
note-requires-clause-event g c =
    let event : Event = get_or c.args.steps.now c.loop-step.step-index (Hit 0) in
    let before = g.M.MachineFace.meaning c.loop-step.m in
    let after = g.M.MachineFace.meaning c.apply.new.self in
    let seen = g.M.Reported.meaning c.loop-step.m in
    let seen' = g.M.Reported.meaning c.apply.new.self in
    still-of before after seen seen' event (g.met.M.Playable.same c.loop-step.m) (g.met.M.Playable.same c.apply.new.self) c.in-Ok.ensures.ok
    (step-of (g.M.MachineFace.meaning c.args.m.now) before seen c.args.steps.now c.loop-step.step-index (Hit 0) c.loop-step-test.true c.requires.within c.loop-step.invariant.made (g.met.M.Playable.same c.loop-step.m))

pub note-requires-clause-node : goal.note-requires-clause-node
note-requires-clause-node g c =
    let event : Event = get_or c.args.steps.now c.loop-step.step-index (Hit 0) in
    let before = g.M.MachineFace.meaning c.loop-step.m in
    let after = g.M.MachineFace.meaning c.apply.new.self in
    let seen = g.M.Reported.meaning c.loop-step.m in
    let seen' = g.M.Reported.meaning c.apply.new.self in
    still-below before after seen seen' event (g.met.M.Playable.same c.loop-step.m) (g.met.M.Playable.same c.apply.new.self) c.in-Ok.ensures.ok c.of-before.result.node c.of-before.ensures.of_machine

pub loop-step-preserved : goal.loop-step-preserved
loop-step-preserved g c =
    let event : Event = get_or c.args.steps.now c.loop-step.step-index (Hit 0) in
    let before = g.M.MachineFace.meaning c.loop-step.m in
    let after = g.M.MachineFace.meaning c.apply.new.self in
    let seen = g.M.Reported.meaning c.loop-step.m in
    let seen' = g.M.Reported.meaning c.apply.new.self in
    record {
      counted = ap (λ (n : ℕ). n + 1) c.loop-step.invariant.counted;
      made = one-more (g.M.MachineFace.meaning c.args.m.now) before c.args.steps.now c.loop-step.step-index (Hit 0) c.loop-step-test.true c.loop-step.invariant.made after c.in-Ok.ensures.ok;
      running = c.apply.ensures.kept;
      told = noted-on before after seen seen' event (g.met.M.Playable.same c.loop-step.m) (g.met.M.Playable.same c.apply.new.self) c.in-Ok.ensures.ok
          c.of-before.result c.loop-step.chart c.note.new.self c.loop-step.invariant.running c.of-before.ensures.known c.loop-step.invariant.told c.in-Ok-note.ensures.told;
      more = omega (arith, c.in-Ok-note.ensures.more, c.loop-step.invariant.more);
    }
