use Rattle.std.proofs.Common.{◌≡◌, length}
use Rattle.thread_run.proofs.ending.unlocked.Given as goal

abbrev pub invariant-loop-lock : goal.invariant-loop-lock
invariant-loop-lock g l = length l.all.items ≡ length l.yielded
