-- Step by step from the start on.
use Rattle.step_range.proofs.Steps.{steps-of-run}
use Rattle.step_range.proofs.every_step.Goals as goal

pub returns : goal.returns
returns c = λ charge trace events past all are ran. steps-of-run charge trace all are events past ran
