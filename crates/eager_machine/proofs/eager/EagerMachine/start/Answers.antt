-- New nodes have made no event.
use Rattle.std.proofs.Common.{rules, [], replicate, refl, ◌∙◌, ◌+◌, ap}
use Rattle.line_map.specs.Sizes.{AreSizes}
use Rattle.eager_machine.proofs.Starts.{start-run}
use Rattle.eager_machine.proofs.eager.EagerMachine.start.Goals as goal

pub invariant_of-result : goal.invariant_of-result
invariant_of-result c =
    let sizes_are : AreSizes c.args.cfg = search rules in
    start-run c.args.cfg c.args.programs.items c.in_ok-nodes.nodes.items c.in_ok-nodes.ensures sizes_are c.requires c.in_ok-lanes.lanes c.in_ok-sends.sends (record { events = c.new-3.result; served = c.new-4.result; counts = replicate 27 0 })
    c.in_ok-lanes.ensures.sizes c.in_ok-lanes.ensures.empty (c.in_ok-sends.ensures ∙ ap (λ n. record { list = []; room = n + 1 }) c.nodes.ensures.value) c.new-3.ensures.items c.new-4.ensures.items refl
