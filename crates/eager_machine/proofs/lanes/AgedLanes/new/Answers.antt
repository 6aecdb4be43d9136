-- The queues that are made are one a lane, and empty, and no lane is marked.
use Rattle.std.proofs.Common.{arith, length, ◌≡◌, ◌≤◌, rules}
use Rattle.std.proofs.lemmas.Bool.Decides.{nat_tests}
use Rattle.line_map.specs.Sizes.{AreSizes}
use Rattle.lane_queues.specs.Queues.{lane_count}
use Rattle.eager_machine.proofs.Queues.{lanes-new}
use Rattle.eager_machine.proofs.Marked.{marked-new}
use Rattle.eager_machine.proofs.lanes.AgedLanes.new.Goals as goal

pub invariant_of-result : goal.invariant_of-result
invariant_of-result c =
    let queues = c.loop-number.queues.items in
    let count : length queues ≡ lane_count c.args.cfg.nodes = omega (arith, c.loop-number.invariant.count, c.loop-number-test.false, c.lane_count-count.ensures.value) in
    let sizes : AreSizes c.args.cfg = search rules in
    let few : c.args.cfg.nodes ≤ 64 = (let nodes = sizes.nodes in grind (arith, nat_tests)) in
    marked-new c.args.cfg queues c.new-2.result count few (lanes-new (record { sizes = c.args.cfg; lists = queues }) c.loop-number.invariant.each count) c.new-2.ensures

pub returns-clause-empty : goal.returns-clause-empty
returns-clause-empty c = lanes-new (record { sizes = c.args.cfg; lists = c.loop-number.queues.items }) c.loop-number.invariant.each (omega (arith, c.loop-number.invariant.count, c.loop-number-test.false, c.lane_count-count.ensures.value))
