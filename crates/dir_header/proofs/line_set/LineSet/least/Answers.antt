-- The least bit of the least marked word is the least line.
use Rattle.dir_header.proofs.LineSets.{none_marked, first_line}
use Rattle.dir_header.proofs.line_set.LineSet.least.Goals as goal

pub returns-then-self-eq0-clause-first : goal.returns-then-self-eq0-clause-first
returns-then-self-eq0-clause-first c = rw (← c.self.view_is) (none_marked c.self.inside.words c.self.inside.some c.self.invariant c.if-self-eq0.true)

pub returns-clause-first : goal.returns-clause-first
returns-clause-first c =
    rw (← c.self.view_is)
    (first_line c.self.inside.words c.self.inside.some c.self.invariant c.least-place.result c.least.result
    c.least-place.ensures.below c.least-place.ensures.in_set c.least-place.ensures.least
    c.least.ensures.below c.least.ensures.in_set c.least.ensures.least)
