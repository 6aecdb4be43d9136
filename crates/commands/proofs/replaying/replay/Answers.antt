-- Each turn makes one step more, or is refused there.
use Rattle.std.proofs.Common.{ap, ◌+◌, subst, sym, ◌∙◌, ℕ}
use Rattle.op_model.specs.declared.events.Event.TheVariants.{Hit}
use Rattle.commands.specs.Steps.{IsStopped, stopped_at}
use Rattle.commands.proofs.Replayed.{one-more, refused-here}
use Rattle.commands.proofs.replaying.replay.Goals as goal

pub returns-in-Err-clause-stopped : goal.returns-in-Err-clause-stopped
returns-in-Err-clause-stopped g c =
    subst (IsStopped (g.M.MachineFace.meaning c.args.m.now) c.args.steps.now) (ap (λ (n : ℕ). stopped_at (n + 1) c.in-Err.error) (sym c.loop-step.invariant.counted) ∙ sym c.stopped.ensures)
    (refused-here (g.M.MachineFace.meaning c.args.m.now) (g.M.MachineFace.meaning c.loop-step.m) c.args.steps.now c.loop-step.step-index (Hit 0) c.loop-step-test.true c.loop-step.invariant.made c.in-Err.error c.in-Err.ensures.refused)

pub loop-step-preserved : goal.loop-step-preserved
loop-step-preserved g c = record {
  counted = ap (λ (n : ℕ). n + 1) c.loop-step.invariant.counted;
  made = one-more (g.M.MachineFace.meaning c.args.m.now) (g.M.MachineFace.meaning c.loop-step.m) c.args.steps.now c.loop-step.step-index (Hit 0) c.loop-step-test.true c.loop-step.invariant.made (g.M.MachineFace.meaning c.apply.new.self) c.in-Ok.ensures.ok;
  running = c.apply.ensures.kept;
}
