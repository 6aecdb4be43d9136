-- So many empty directories are made as the loop has counted.
use Rattle.std.proofs.Common.{◌≡◌, replicate}
use Rattle.sharer_dir.specs.Linked.{first_linked}
use Rattle.commands.proofs.machines.linked_dirs.Given as goal

abbrev pub invariant-loop : goal.invariant-loop
invariant-loop l = l.dirs.items ≡ replicate l.counter (first_linked l.cfg.lines l.cfg.links)
