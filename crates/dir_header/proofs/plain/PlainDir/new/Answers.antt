-- Each word is 0, so each list is empty.
use Rattle.std.proofs.Common.{refl}
use Rattle.dir_header.proofs.PlainLists.{empty-lists, made_plain}
use Rattle.dir_header.proofs.plain.PlainDir.new.Goals as goal

pub invariant_of-result : goal.invariant_of-result
invariant_of-result c = made_plain c.in-Ok.lists.items c.args.lines c.args.links c.args.nodes (c.in-Ok.ensures.items_if_clones_equal (λ y h. h)) c.ranges.lines.fits c.requires

pub returns : goal.returns
returns c = rw (c.in-Ok.ensures.items_if_clones_equal (λ y h. h)) (rw (empty-lists c.args.lines) refl)
