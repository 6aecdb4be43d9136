-- The word of the line gains its bit, and is marked.
use Rattle.dir_header.proofs.LineSets.{lines-put, marked-put}
use Rattle.dir_header.proofs.line_set.LineSet.insert.Goals as goal

pub invariant_of-self : goal.invariant_of-self
invariant_of-self c =
    marked-put c.self.inside.words c.args.m c.with.result c.requires c.self.invariant.count c.self.inside.some c.self.invariant c.with-self-inside.result c.with.ensures c.with-self-inside.ensures

pub returns : goal.returns
returns c = rw (← c.self.view_is) (lines-put c.self.inside.words c.args.m c.with.result c.requires c.self.invariant.count c.with.ensures)
