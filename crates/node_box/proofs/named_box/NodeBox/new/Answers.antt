use Rattle.std.proofs.Common.{rules, sym, ap, ◌∙◌, subst, replicate, false, ◌+◌, []}
use Rattle.node_box.specs.Boxes.{LinkedNode, BoxView, IsBox}
use Rattle.node_box.proofs.Opening.{new_box}
use Rattle.node_box.proofs.named_box.NodeBox.new.Goals as goal

pub invariant_of-result : goal.invariant_of-result
invariant_of-result g c =
    let box : LinkedNode → BoxView = λ n. record { node = n; out = c.in_ok-new.field-0; departed = c.in-Ok.departed.items; sends = c.in_ok-new-2.field-0; log = c.empty.result; seat = c.args.seat } in
    let machine = c.cfg-cfg.ensures.value ∙ ap (λ h. h.sizes) c.home.ensures in
    let made : IsBox g.K.Named.table (box c.args.node) =
    new_box g.K.Named.table (box c.args.node) c.cfg-cfg.result c.requires.seat machine c.requires.node c.requires.program c.requires.unsent.0 c.requires.unsent.1 c.requires.unlogged c.requires.ready
    c.in_ok-new.ensures (c.in-Ok.ensures.items_if_clones_equal (search rules) ∙ ap (λ n. replicate n false) c.nodes.ensures.value) (c.in_ok-new-2.ensures ∙ ap (λ n. record { list = []; room = n + 1 }) c.nodes-2.ensures.value) c.empty.ensures (search rules) in
    subst (λ n. IsBox g.K.Named.table (box n)) (sym c.node.view_is) made
