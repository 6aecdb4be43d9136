-- So many steps are made as the loop has seen, they run, and the story is told of them.
use Rattle.std.proofs.Common.{◌≡◌, take}
use Rattle.op_model.specs.Run.Machines.{IsRunning}
use Rattle.time_view.specs.Stories.{story_of}
use Rattle.commands.specs.Steps.{HasMade}
use Rattle.commands.proofs.viewing.replay_noted.Given as goal

abbrev pub invariant-loop-step : goal.invariant-loop-step
invariant-loop-step g l = record {
  counted : l.made ≡ l.step-index;
  made : HasMade (g.M.MachineFace.meaning l.initial.m) (take l.step-index l.steps) (g.M.MachineFace.meaning l.m);
  running : IsRunning (g.M.MachineFace.meaning l.m);
  told : l.story ≡ story_of (g.M.MachineFace.meaning l.m) l.initial.story.line;
}
