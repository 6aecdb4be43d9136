-- The word of the line gains the node, so its list does.
use Rattle.std.proofs.Common.{◌<◌, ap, ◌∙◌, length, map}
use Rattle.op_model.specs.Nodes.{enlist}
use Rattle.dir_header.specs.WordSets.{members}
use Rattle.dir_header.proofs.Directories.{enlist-below}
use Rattle.dir_header.proofs.PlainLists.{word-is, put-is, put-keeps}
use Rattle.dir_header.proofs.plain.PlainDirSharers.add.Goals as goal

pub invariant_of-self : goal.invariant_of-self
invariant_of-self c =
    let items = c.self.inside.lists.items in
    let links = c.self.inside.links in
    let nodes = c.self.inside.nodes in
    let within : c.args.m < length (map members items) = rw (← c.self.view_is) at c.requires.line in
    let below : c.args.node < nodes = rw (← c.self.view_is) at c.requires.bound in
    let is = word-is items links nodes c.args.m c.self.invariant within c.index.result.now c.index.ensures in
    put-keeps items links nodes c.args.m c.self.invariant within c.with.result _ (c.with.ensures ∙ ap (λ l. enlist l c.args.node) is)
    (λ q. enlist-below _ c.args.node nodes q below (c.self.invariant.kept.below c.args.m q))

pub returns-clause-ok : goal.returns-clause-ok
returns-clause-ok c =
    let items = c.self.inside.lists.items in
    let links = c.self.inside.links in
    let nodes = c.self.inside.nodes in
    let within : c.args.m < length (map members items) = rw (← c.self.view_is) at c.requires.line in
    let is = word-is items links nodes c.args.m c.self.invariant within c.index.result.now c.index.ensures in
    rw (← c.self.view_is) (put-is items links nodes c.args.m c.self.invariant within c.with.result _ (c.with.ensures ∙ ap (λ l. enlist l c.args.node) is))
