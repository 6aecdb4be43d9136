use Rattle.std.proofs.Common.{length}
use Rattle.link_store.specs.Entries.{walked}
use Rattle.link_store.proofs.Homes.{IsHoming}
use Rattle.link_store.proofs.links.Links.home_line.Given as goal

abbrev pub invariant-loop-at : goal.invariant-loop-at
invariant-loop-at l = IsHoming l.self-inside.entries.items l.link l.at

abbrev pub decreases-loop-at : goal.decreases-loop-at
decreases-loop-at l = length (walked l.self-inside.entries.items (length l.self-inside.entries.items) l.at)
