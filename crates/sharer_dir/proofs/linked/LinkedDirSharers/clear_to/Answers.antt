-- The list is that of one node, or empty.
use Rattle.std.proofs.Common.{◌<◌, length, refl, set}
use Rattle.sharer_dir.specs.Kept.{linked_view}
use Rattle.sharer_dir.proofs.Clearing.{list_cleared, cleared_directory}
use Rattle.sharer_dir.proofs.Answered.{kept_by}
use Rattle.sharer_dir.proofs.linked.LinkedDirSharers.clear_to.Goals as goal

pub invariant_of-self : goal.invariant_of-self
invariant_of-self c =
    let is = c.self.invariant.linked in
    let l : c.args.m < length c.self.inside.sets.lists = rw (← c.self.view_is) at c.requires.line in
    kept_by c.self.inside.heads.items _ c.self.inside.links c.free_chain.new.links c.self.inside.sets c.clear_to.new.self c.args.m _ c.self.invariant c.clear_to.ensures
    (list_cleared (linked_view c.self.inside.heads.items c.self.inside.links c.self.inside.sets) c.free_chain.new.links c.args.m c.args.only is l c.free_chain.ensures.after c.free_chain.ensures.partition)

pub returns-clause-kept : goal.returns-clause-kept
returns-clause-kept c = (invariant_of-self c).linked

pub returns-clause-after : goal.returns-clause-after
returns-clause-after c =
    rw (← c.self.view_is)
    (cleared_directory (set c.self.inside.heads.items c.args.m c.args.only) (linked_view c.self.inside.heads.items c.self.inside.links c.self.inside.sets) c.free_chain.new.links c.self.inside.sets c.clear_to.new.self c.args.m c.args.only refl c.free_chain.ensures.after c.clear_to.ensures)
