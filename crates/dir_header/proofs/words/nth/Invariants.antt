-- After as many of the least numbers are taken out as the place says, the least of the rest is the one at that place.
use Rattle.std.proofs.Common.{◌≡◌, drop}
use Rattle.op_model.specs.Nodes.{in_order}
use Rattle.dir_header.specs.WordSets.{members}
use Rattle.dir_header.proofs.words.nth.Given as goal

abbrev pub invariant-loop : goal.invariant-loop
invariant-loop l = drop l.counter (in_order (members l.word)) ≡ in_order (members l.rest)
