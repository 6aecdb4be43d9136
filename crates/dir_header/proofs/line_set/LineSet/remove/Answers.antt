-- The word of the line loses its bit, and its mark where nothing is left in it.
use Rattle.dir_header.proofs.LineSets.{lines-taken, marked-taken, marked-left}
use Rattle.dir_header.proofs.line_set.LineSet.remove.Goals as goal

pub invariant_of-self : goal.invariant_of-self
invariant_of-self c =
    marked-taken c.self.inside.words c.args.m c.without-left.result c.requires c.self.invariant.count c.self.inside.some c.self.invariant c.without-self-inside.result c.if-left-eq0.true c.without-self-inside.ensures

pub invariant_of-self-else-left-eq0 : goal.invariant_of-self-else-left-eq0
invariant_of-self-else-left-eq0 c =
    marked-left c.self.inside.words c.args.m c.without-left.result c.requires c.self.invariant.count c.self.inside.some c.self.invariant c.without-left.type_inv c.if-left-eq0.false c.without-left.ensures

pub returns-then-left-eq0 : goal.returns-then-left-eq0
returns-then-left-eq0 c = rw (← c.self.view_is) (lines-taken c.self.inside.words c.args.m c.without-left.result c.requires c.self.invariant.count c.without-left.ensures)

pub returns-else-left-eq0 : goal.returns-else-left-eq0
returns-else-left-eq0 c = rw (← c.self.view_is) (lines-taken c.self.inside.words c.args.m c.without-left.result c.requires c.self.invariant.count c.without-left.ensures)
