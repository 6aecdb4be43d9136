-- The lines that are left are those from the place on that has been come to.
use Rattle.std.proofs.Common.{◌≡◌, drop}
use Rattle.std.specs.Prelude.{filter}
use Rattle.op_model.specs.Run.Seeded.{lines_of}
use Rattle.dir_header.specs.HomeSides.{is_victim}
use Rattle.dir_header.proofs.home.HomeSide.victim_at.Given as goal

abbrev pub invariant-loop : goal.invariant-loop
invariant-loop g l = drop l.counter (filter (is_victim l.self) (lines_of l.self.sizes l.self.node)) ≡ l.victims
