-- The word of the line loses the node, so its list does.
use Rattle.std.proofs.Common.{◌<◌, sym, ap, ◌∙◌, length, map}
use Rattle.op_model.specs.Nodes.{listed, unlist}
use Rattle.dir_header.specs.Plain.{plain_directory, plain_view}
use Rattle.dir_header.specs.WordSets.{members}
use Rattle.dir_header.proofs.Directories.{unlist-below, unlist-same}
use Rattle.dir_header.proofs.PlainLists.{word-is, put-is, put-keeps}
use Rattle.dir_header.proofs.plain.PlainDirSharers.remove.Goals as goal

pub invariant_of-self : goal.invariant_of-self
invariant_of-self c =
    let items = c.self.inside.lists.items in
    let links = c.self.inside.links in
    let nodes = c.self.inside.nodes in
    let within : c.args.m < length (map members items) = rw (← c.self.view_is) at c.requires.line in
    let is = word-is items links nodes c.args.m c.self.invariant within c.index-list.result.now c.index-list.ensures in
    put-keeps items links nodes c.args.m c.self.invariant within c.without.result _ (c.without.ensures ∙ ap (λ l. unlist l c.args.node) is)
    (λ q. unlist-below _ c.args.node nodes q (c.self.invariant.kept.below c.args.m q))

pub returns-clause-after : goal.returns-clause-after
returns-clause-after c =
    let items = c.self.inside.lists.items in
    let links = c.self.inside.links in
    let nodes = c.self.inside.nodes in
    let within : c.args.m < length (map members items) = rw (← c.self.view_is) at c.requires.line in
    let is = word-is items links nodes c.args.m c.self.invariant within c.index-list.result.now c.index-list.ensures in
    rw (← c.self.view_is) (put-is items links nodes c.args.m c.self.invariant within c.without.result _ (c.without.ensures ∙ ap (λ l. unlist l c.args.node) is))

pub returns-then-not-has-clause-after : goal.returns-then-not-has-clause-after
returns-then-not-has-clause-after c =
    let items = c.self.inside.lists.items in
    let links = c.self.inside.links in
    let nodes = c.self.inside.nodes in
    let within : c.args.m < length (map members items) = rw (← c.self.view_is) at c.requires.line in
    let is = word-is items links nodes c.args.m c.self.invariant within c.index-list.result.now c.index-list.ensures in
    rw (← c.self.view_is) (unlist-same (plain_directory (plain_view items links nodes)) c.args.m c.args.node (ap (λ l. listed l c.args.node) (sym is) ∙ sym c.has.ensures ∙ c.if-not-has.true))
