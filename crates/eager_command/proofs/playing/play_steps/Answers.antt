-- Each turn makes one step more, or is refused there.
use Rattle.std.proofs.Common.{ap, ◌+◌, subst, sym, ◌∙◌, ℕ, rules}
use Rattle.op_model.specs.declared.events.Event.TheVariants.{Hit}
use Rattle.commands.specs.Steps.{stopped_at}
use Rattle.command_words.specs.declared.command.EagerPlay.TheVariants.{Replay}
use Rattle.eager_command.specs.Outputs.{IsEagerStopped}
use Rattle.eager_command.proofs.Played.{none-made, steps-played, event-here, here-run, one-more, refused-here}
use Rattle.eager_command.proofs.playing.play_steps.Goals as goal

pub loop-step-init : goal.loop-step-init
loop-step-init c = record { counted = search rules; has = none-made c.args.trace.now c.steps-steps.ensures.kept c.args.machine.now c.requires.fresh }

pub apply-requires : goal.apply-requires
apply-requires c =
    let loop = c.loop-step in
    event-here c.args.trace.now c.steps-steps.ensures.kept c.steps-steps.result.now c.steps-steps.ensures.value loop.machine loop.step-index (Hit 0) c.loop-step-test.true loop.invariant.has

pub returns-in-Err-clause-stopped : goal.returns-in-Err-clause-stopped
returns-in-Err-clause-stopped c =
    let trace = c.args.trace.now in
    let steps = c.steps-steps.result.now in
    let loop = c.loop-step in
    let has = loop.invariant.has in
    subst (IsEagerStopped Replay trace) (ap (λ (n : ℕ). stopped_at (n + 1) c.in-Err.error) (sym loop.invariant.counted) ∙ sym c.stopped.ensures)
    (refused-here trace c.steps-steps.ensures.kept steps c.steps-steps.ensures.value loop.machine loop.step-index (Hit 0) c.loop-step-test.true has c.in-Err.error
    (c.in-Err.ensures.cause has.past (here-run trace c.steps-steps.ensures.kept steps c.steps-steps.ensures.value loop.machine loop.step-index (Hit 0) c.loop-step-test.true has)))

pub loop-step-preserved : goal.loop-step-preserved
loop-step-preserved c =
    let loop = c.loop-step in
    let made = c.apply.ensures in
    record {
      counted = ap (λ (n : ℕ). n + 1) loop.invariant.counted;
      has = one-more c.args.trace.now c.steps-steps.ensures.kept c.steps-steps.result.now c.steps-steps.ensures.value loop.machine loop.step-index (Hit 0) c.loop-step-test.true loop.invariant.has c.apply.new.self made.ran.0 made.sizes made.programs c.in-Ok.ensures.ok made.ran.1;
    }

pub returns-clause-ok : goal.returns-clause-ok
returns-clause-ok c =
    let loop = c.loop-step in
    steps-played c.args.trace.now c.steps-steps.ensures.kept c.steps-steps.result.now c.steps-steps.ensures.value loop.machine loop.step-index c.loop-step-test.false loop.invariant.has
