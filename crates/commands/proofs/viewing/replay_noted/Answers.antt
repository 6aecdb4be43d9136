-- Each turn makes one step more and notes it, or is refused there.
use Rattle.std.proofs.Common.{ap, ◌+◌, subst, sym, ◌∙◌, ℕ, get_or}
use Rattle.op_model.specs.declared.events.Event.{Event}
use Rattle.op_model.specs.declared.events.Event.TheVariants.{Hit}
use Rattle.commands.specs.Steps.{IsStopped, stopped_at}
use Rattle.commands.proofs.Replayed.{one-more, refused-here}
use Rattle.commands.proofs.Shown.{own-line, next-step, still-there, seen-applied, noted-on}
use Rattle.commands.proofs.viewing.replay_noted.Goals as goal

pub returns-in-Err-clause-stopped : goal.returns-in-Err-clause-stopped
returns-in-Err-clause-stopped g c =
    subst (IsStopped (g.M.MachineFace.meaning c.args.m.now) c.args.steps.now) (ap (λ (n : ℕ). stopped_at (n + 1) c.in-Err.error) (sym c.loop-step.invariant.counted) ∙ sym c.stopped.ensures)
    (refused-here (g.M.MachineFace.meaning c.args.m.now) (g.M.MachineFace.meaning c.loop-step.m) c.args.steps.now c.loop-step.step-index (Hit 0) c.loop-step-test.true c.loop-step.invariant.made c.in-Err.error c.in-Err.ensures.refused)

pub note-requires-clause-line : goal.note-requires-clause-line
note-requires-clause-line g c =
    let event : Event = get_or c.args.steps.now c.loop-step.step-index (Hit 0) in
    still-there (g.M.MachineFace.meaning c.loop-step.m) (g.M.MachineFace.meaning c.apply.new.self) (g.M.Reported.meaning c.apply.new.self) event c.args.story.now.line c.loop-step.story (g.met.M.Playable.same c.apply.new.self) c.in-Ok.ensures.ok c.loop-step.invariant.told
    (g.M.MachineFace.meaning c.args.m.now) _ c.loop-step.invariant.made c.requires.line

pub note-requires-clause-next : goal.note-requires-clause-next
note-requires-clause-next g c =
    let event : Event = get_or c.args.steps.now c.loop-step.step-index (Hit 0) in
    next-step (g.M.MachineFace.meaning c.loop-step.m) (g.M.MachineFace.meaning c.apply.new.self) (g.M.Reported.meaning c.apply.new.self) event c.args.story.now.line c.loop-step.story (g.met.M.Playable.same c.apply.new.self) c.in-Ok.ensures.ok c.loop-step.invariant.told

pub loop-step-preserved : goal.loop-step-preserved
loop-step-preserved g c =
    let event : Event = get_or c.args.steps.now c.loop-step.step-index (Hit 0) in
    let before = g.M.MachineFace.meaning c.loop-step.m in
    let after = g.M.MachineFace.meaning c.apply.new.self in
    let seen = g.M.Reported.meaning c.apply.new.self in
    let line = c.args.story.now.line in
    let same = g.met.M.Playable.same c.apply.new.self in
    let told = c.loop-step.invariant.told in
    record {
      counted = ap (λ (n : ℕ). n + 1) c.loop-step.invariant.counted;
      made = one-more (g.M.MachineFace.meaning c.args.m.now) before c.args.steps.now c.loop-step.step-index (Hit 0) c.loop-step-test.true c.loop-step.invariant.made after c.in-Ok.ensures.ok;
      running = c.apply.ensures.kept;
      told = noted-on before after seen event line c.loop-step.story same c.in-Ok.ensures.ok told c.note.new.self
          (c.in-Ok-note.ensures.told before event (seen-applied before after seen event line c.loop-step.story same c.in-Ok.ensures.ok told) (own-line before line c.loop-step.story told));
    }
