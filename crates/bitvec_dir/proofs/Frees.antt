-- No list holds a link, so all are free.
use Rattle.std.specs.Prelude.{◌≡◌}
use Rattle.std.proofs.Common.{arith}
use Rattle.dir_header.specs.Plain.{PlainView, plain_directory}
use Rattle.dir_header.specs.Sharers.{free_in}
use Rattle.dir_header.proofs.Public.{held-nothing}

pub links-free : (dir : PlainView) → free_in (plain_directory dir) ≡ dir.links
links-free dir = let e = held-nothing dir.lists in omega arith
