-- The first link's node follows a head that goes; another node goes with its link.
use Rattle.std.proofs.Common.{◌<◌, ◌∙◌, length, arith, refl, sym}
use Rattle.link_store.specs.Pools.{chain_of, link_with}
use Rattle.dir_header.proofs.Public.{unlist-same}
use Rattle.sharer_dir.specs.Linked.{linked_directory}
use Rattle.sharer_dir.specs.Kept.{linked_view}
use Rattle.sharer_dir.proofs.Changed.{head_removed, link_removed}
use Rattle.sharer_dir.proofs.Answered.{head_read, head_is, head_is_not, kept_by}
use Rattle.sharer_dir.proofs.linked.LinkedDirSharers.remove.Goals as goal
use Rattle.sharer_dir.proofs.linked.LinkedDirSharers.remove.Goals.{then-eq, else-eq}

pub invariant_of-self : goal.invariant_of-self
invariant_of-self c =
    let is = c.self.invariant.linked in
    let l : c.args.m < length c.self.inside.sets.lists = rw (← c.self.view_is) at c.requires.line in
    let head = head_read c.self.inside.heads.items c.args.m c.index.result.now (let e = is.heads in omega (arith, e)) c.index.ensures in
    elim c.if-eq.branch [
      | then-eq w ↦
          let after = rw w.self-inside-is at c.remove.ensures.after in
          let first = w.pop_front.ensures.value in
          let pool = w.pop_front.ensures.after in
          rw (w.self-inside-is, first, pool)
          (kept_by _ _ _ _ _ c.remove.new.self c.args.m _ c.self.invariant after
          (head_removed (linked_view c.self.inside.heads.items c.self.inside.links c.self.inside.sets) c.args.m c.args.node (chain_of c.self.inside.links c.args.m) is l (head ∙ head_is _ c.args.node _ c.eq.ensures w.if-eq.true) refl (rw pool at w.pop_front.ensures.partition)))
      | else-eq w ↦
          let after = rw w.self-inside-is at c.remove.ensures.after in
          let pool = w.unlink.ensures.after in
          rw (w.self-inside-is, pool)
          (kept_by _ _ _ _ _ c.remove.new.self c.args.m _ c.self.invariant after
          (link_removed (linked_view c.self.inside.heads.items c.self.inside.links c.self.inside.sets) c.args.m c.args.node c.index.result.now (link_with (chain_of c.self.inside.links c.args.m) c.args.node) is l head (head_is_not _ c.args.node _ c.eq.ensures w.if-eq.false) refl (rw pool at w.unlink.ensures.partition)))
    ]

pub returns-clause-kept : goal.returns-clause-kept
returns-clause-kept c = (invariant_of-self c).linked

pub returns-then-not-contains-clause-after : goal.returns-then-not-contains-clause-after
returns-then-not-contains-clause-after c =
    rw (← c.self.view_is) (unlist-same (linked_directory (linked_view c.self.inside.heads.items c.self.inside.links c.self.inside.sets)) c.args.m c.args.node (sym c.contains.ensures ∙ c.if-not-contains.true))
