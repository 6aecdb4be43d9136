-- The first directory is kept as it should be.
use Rattle.std.proofs.Common.{◌≡◌, ap, rules}
use Rattle.std.specs.Prelude.{replicate, None}
use Rattle.dir_header.specs.Plain.{PlainView}
use Rattle.sharer_dir.specs.Linked.{IsLinkedDir}
use Rattle.sharer_dir.specs.Kept.{linked_view}
use Rattle.sharer_dir.proofs.First.{linked_first}
use Rattle.sharer_dir.proofs.linked.LinkedDir.new.Goals as goal

kept : (c : goal.In_ok-new-2) → IsLinkedDir (linked_view c.in-Ok.heads.items c.in_ok-new.field-0 c.in_ok-new-2.field-0)
kept c =
    let heads : c.in-Ok.heads.items ≡ replicate c.args.lines None = search (rules, c.in-Ok.ensures.items_if_clones_equal) in
    rw (heads, c.in_ok-new.ensures.value, c.in_ok-new-2.ensures) (linked_first c.args.lines c.args.links (rw c.in_ok-new.ensures.value at c.in_ok-new.ensures.partition))

pub invariant_of-result : goal.invariant_of-result
invariant_of-result c = record { linked = kept c; bound = ap (λ (p : PlainView). p.nodes) c.in_ok-new-2.ensures }

pub returns-clause-kept : goal.returns-clause-kept
returns-clause-kept c = kept c
