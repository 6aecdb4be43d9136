-- The least bit is the least node that is left.
use Rattle.std.proofs.Common.{sym, ◌∙◌}
use Rattle.dir_header.proofs.Bits.{none-left, least-left}
use Rattle.dir_header.proofs.listed.Listed.next.Goals as goal

pub returns-then-self-eq0 : goal.returns-then-self-eq0
returns-then-self-eq0 c = sym c.self.view_is ∙ none-left c.self.inside.left c.if-self-eq0.true

pub returns : goal.returns
returns c = sym c.self.view_is ∙ least-left c.self.inside.left c.least-node.result c.without-self-inside.result c.least-node.ensures.in_set c.least-node.ensures.least c.without-self-inside.ensures
