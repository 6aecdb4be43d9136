use Rattle.std.proofs.Common.{length}
use Rattle.link_store.specs.Entries.{walked}
use Rattle.link_store.proofs.Loops.{IsSearching}
use Rattle.link_store.proofs.entries.find.Given as goal

abbrev pub invariant-loop-at : goal.invariant-loop-at
invariant-loop-at l = IsSearching l.entries l.fn.start l.node l.before l.at

abbrev pub decreases-loop-at : goal.decreases-loop-at
decreases-loop-at l = length (walked l.entries l.fn.start.len l.at)
