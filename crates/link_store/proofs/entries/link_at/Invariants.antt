use Rattle.link_store.proofs.Loops.{IsAt}
use Rattle.link_store.proofs.entries.link_at.Given as goal

abbrev pub invariant-loop : goal.invariant-loop
invariant-loop l = IsAt l.entries l.fn.start l.counter l.at
