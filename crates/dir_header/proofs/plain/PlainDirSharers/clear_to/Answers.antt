-- The word of the line is 0, or then that of the one node.
use Rattle.std.proofs.Common.{◌<◌, ap, sym, ◌∙◌, length, map, IfSome}
use Rattle.op_model.specs.Nodes.{enlist}
use Rattle.dir_header.specs.Sharers.{only_this}
use Rattle.dir_header.specs.WordSets.{members}
use Rattle.dir_header.proofs.Bits.{members-zero}
use Rattle.dir_header.proofs.Directories.{only-below}
use Rattle.dir_header.proofs.PlainLists.{put-is, put-keeps, put-after-is, put-after-keeps}
use Rattle.dir_header.proofs.plain.PlainDirSharers.clear_to.Goals as goal

pub invariant_of-self : goal.invariant_of-self
invariant_of-self c =
    let items = c.self.inside.lists.items in
    let within : c.args.m < length (map members items) = rw (← c.self.view_is) at c.requires.line in
    let below : IfSome c.args.only (λ node. node < c.self.inside.nodes) = rw (← c.self.view_is) at c.requires.bound in
    put-after-keeps items c.self.inside.links c.self.inside.nodes c.args.m c.self.invariant within c.with.result (only_this c.args.only)
    (c.with.ensures ∙ ap (λ s. enlist s c.in-Some.node) members-zero ∙ sym (ap only_this c.in-Some.is)) (λ q. only-below c.args.only c.self.inside.nodes q below)

pub invariant_of-self-in_default : goal.invariant_of-self-in_default
invariant_of-self-in_default c =
    let items = c.self.inside.lists.items in
    let within : c.args.m < length (map members items) = rw (← c.self.view_is) at c.requires.line in
    let below : IfSome c.args.only (λ node. node < c.self.inside.nodes) = rw (← c.self.view_is) at c.requires.bound in
    put-keeps items c.self.inside.links c.self.inside.nodes c.args.m c.self.invariant within 0 (only_this c.args.only)
    (members-zero ∙ sym (ap only_this c.in_default.is)) (λ q. only-below c.args.only c.self.inside.nodes q below)

pub returns-in-Some : goal.returns-in-Some
returns-in-Some c =
    let items = c.self.inside.lists.items in
    let within : c.args.m < length (map members items) = rw (← c.self.view_is) at c.requires.line in
    rw (← c.self.view_is)
    (put-after-is items c.self.inside.links c.self.inside.nodes c.args.m c.self.invariant within c.with.result (only_this c.args.only)
    (c.with.ensures ∙ ap (λ s. enlist s c.in-Some.node) members-zero ∙ sym (ap only_this c.in-Some.is)))

pub returns-in_default : goal.returns-in_default
returns-in_default c =
    let items = c.self.inside.lists.items in
    let within : c.args.m < length (map members items) = rw (← c.self.view_is) at c.requires.line in
    rw (← c.self.view_is)
    (put-is items c.self.inside.links c.self.inside.nodes c.args.m c.self.invariant within 0 (only_this c.args.only) (members-zero ∙ sym (ap only_this c.in_default.is)))
