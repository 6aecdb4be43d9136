-- So many steps are made as the loop has seen, and they run.
use Rattle.std.proofs.Common.{◌≡◌, take}
use Rattle.eager_command.specs.Played.{HasMade}
use Rattle.eager_command.proofs.playing.play_steps.Given as goal

abbrev pub invariant-loop-step : goal.invariant-loop-step
invariant-loop-step l = record {
  counted : l.made ≡ l.step-index;
  has : HasMade l.fn.trace (take l.step-index l.steps) l.machine;
}
