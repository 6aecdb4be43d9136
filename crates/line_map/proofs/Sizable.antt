-- What the limits of a machine say of its sizes.
use Rattle.std.proofs.Common.{◌<◌, ◌≤◌, arith}
use Rattle.std.proofs.lemmas.Bool.Decides.{nat_tests}
use Rattle.line_map.specs.Sizes.{Sizes, AreSizes}

-- a line has a word, and a node has a line of memory
pub some-words : (sizes : Sizes) → AreSizes sizes → 0 < sizes.words
some-words sizes are = let n = are.words in grind (arith, nat_tests)

pub some-lines : (sizes : Sizes) → AreSizes sizes → 0 < sizes.lines
some-lines sizes are = let n = are.lines in grind (arith, nat_tests)

-- there are at most 64 nodes
pub few-nodes : (sizes : Sizes) → AreSizes sizes → sizes.nodes ≤ 64
few-nodes sizes are = let n = are.nodes in grind (arith, nat_tests)
