-- A listed node stays listed once. Another one becomes the head, or takes the first free link.
use Rattle.std.proofs.Common.{◌≡◌, ◌<◌, ◌∙◌, sym, ap, refl, length, arith, false, IsTrue, ◌∷◌}
use Rattle.op_model.specs.Nodes.{listed, enlist}
use Rattle.dir_header.specs.Sharers.{list_at, needs_link, free_in}
use Rattle.link_store.specs.Pools.{after_put}
use Rattle.dir_header.specs.Plain.{plain_directory}
use Rattle.sharer_dir.specs.Linked.{linked_directory}
use Rattle.sharer_dir.specs.Kept.{linked_view}
use Rattle.sharer_dir.proofs.Changed.{head_added, link_added}
use Rattle.sharer_dir.proofs.Answered.{on_ok, never_false, head_read, no_head, some_head, some_free, none_free, kept_by, added_again, no_room, head_has_room, link_has_room}
use Rattle.sharer_dir.proofs.linked.LinkedDirSharers.add.Goals as goal
use Rattle.sharer_dir.proofs.linked.LinkedDirSharers.add.Goals.{then-is_none, else-is_none+else-is_err}

pub returns-then-contains-clause-ok : goal.returns-then-contains-clause-ok
returns-then-contains-clause-ok c = rw (← c.self.view_is) (added_again (linked_view c.self.inside.heads.items c.self.inside.links c.self.inside.sets) c.args.m c.args.node (sym c.contains.ensures ∙ c.if-contains.true))

pub returns-then-is_err-clause-room : goal.returns-then-is_err-clause-room
returns-then-is_err-clause-room c =
    let is = c.self.invariant.linked in
    let l : c.args.m < length c.self.inside.sets.lists = rw (← c.self.view_is) at c.requires.line in
    let head = head_read c.self.inside.heads.items c.args.m c.index.result.now (let e = is.heads in omega (arith, e)) c.index.ensures in
    let some = some_head _ _ c.is_none.ensures c.if-is_none.false in
    let free = none_free c.put_front.result _ c.put_front.ensures.value (sym c.if-is_err.true ∙ c.is_err.ensures.value) in
    let absent : listed (list_at (plain_directory c.self.inside.sets) c.args.m) c.args.node ≡ false = sym c.contains.ensures ∙ c.if-contains.false in
    let full = no_room (linked_view c.self.inside.heads.items c.self.inside.links c.self.inside.sets) c.args.m c.args.node some.0 is l (head ∙ some.1) absent free in
    rw (← c.self.view_is) (λ e. full, λ both. refl)

pub invariant_of-self-2 : goal.invariant_of-self-2
invariant_of-self-2 c =
    let is = c.self.invariant.linked in
    let l : c.args.m < length c.self.inside.sets.lists = rw (← c.self.view_is) at c.requires.line in
    let head = head_read c.self.inside.heads.items c.args.m c.index.result.now (let e = is.heads in omega (arith, e)) c.index.ensures in
    let absent : listed (list_at (plain_directory c.self.inside.sets) c.args.m) c.args.node ≡ false = sym c.contains.ensures ∙ c.if-contains.false in
    let after = on_ok c.add.result _ (λ e. never_false (c.add.ensures.room.0 e)) c.add.ensures.ok in
    elim c.if-is_none.branch [
      | then-is_none w ↦
          let after' = rw w.self-inside-is at after in
          rw w.self-inside-is
          (kept_by _ _ _ _ _ c.add.new.self c.args.m _ c.self.invariant after' (head_added (linked_view c.self.inside.heads.items c.self.inside.links c.self.inside.sets) c.args.m c.args.node is l (head ∙ no_head _ _ c.is_none.ensures w.if-is_none.true) absent))
      | else-is_none+else-is_err w ↦
          let some = some_head _ _ c.is_none.ensures w.if-is_none.false in
          let free = some_free w.put_front.result _ _ w.put_front.ensures.value (sym w.if-is_err.false ∙ w.is_err.ensures.value) in
          let pool = w.put_front.ensures.after ∙ ap (after_put c.self.inside.links c.args.m c.args.node) free.2 in
          let after' = rw w.self-inside-is at after in
          rw (w.self-inside-is, pool)
          (kept_by c.self.inside.heads.items c.self.inside.heads.items c.self.inside.links (after_put c.self.inside.links c.args.m c.args.node (free.0 ∷ free.1)) c.self.inside.sets c.add.new.self c.args.m (enlist (list_at (plain_directory c.self.inside.sets) c.args.m) c.args.node) c.self.invariant after'
          (link_added (linked_view c.self.inside.heads.items c.self.inside.links c.self.inside.sets) c.args.m c.args.node some.0 free.0 free.1 is l (head ∙ some.1) absent (rw pool at w.put_front.ensures.partition)))
    ]

pub returns-clause-room : goal.returns-clause-room
returns-clause-room c =
    let is = c.self.invariant.linked in
    let l : c.args.m < length c.self.inside.sets.lists = rw (← c.self.view_is) at c.requires.line in
    let head = head_read c.self.inside.heads.items c.args.m c.index.result.now (let e = is.heads in omega (arith, e)) c.index.ensures in
    let absent : listed (list_at (plain_directory c.self.inside.sets) c.args.m) c.args.node ≡ false = sym c.contains.ensures ∙ c.if-contains.false in
    let room : IsTrue (needs_link (linked_directory (linked_view c.self.inside.heads.items c.self.inside.links c.self.inside.sets)) c.args.m c.args.node) → free_in (linked_directory (linked_view c.self.inside.heads.items c.self.inside.links c.self.inside.sets)) ≡ 0 → ⊥ = λ needed none. elim c.if-is_none.branch [
      | then-is_none w ↦ head_has_room (linked_view c.self.inside.heads.items c.self.inside.links c.self.inside.sets) c.args.m c.args.node is l (head ∙ no_head _ _ c.is_none.ensures w.if-is_none.true) absent needed
      | else-is_none+else-is_err w ↦
          let free = some_free w.put_front.result _ _ w.put_front.ensures.value (sym w.if-is_err.false ∙ w.is_err.ensures.value) in
          link_has_room (linked_view c.self.inside.heads.items c.self.inside.links c.self.inside.sets) free.0 free.1 is free.2 none
    ] in
    rw (← c.self.view_is) (λ e. absurd (never_false (c.add.ensures.room.0 e)), λ both. absurd (room both.0 both.1))

pub returns-clause-kept : goal.returns-clause-kept
returns-clause-kept c = (invariant_of-self-2 c).linked
