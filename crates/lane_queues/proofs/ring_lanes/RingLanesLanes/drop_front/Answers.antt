-- The message at the front of the lane's ring leaves, its pair's count falls by what it counts, and the lane stays marked where it still holds a message.
use Rattle.std.proofs.Common.{◌≡◌, ◌∙◌, ◌<◌, ℕ, ap, sym, arith, length, Some, slice_get}
use Rattle.std.proofs.lemmas.List.{with_items_is}
use Rattle.lane_queues.specs.LaneStates.{HasFront}
use Rattle.lane_queues.specs.Queues.{lane_in}
use Rattle.lane_queues.proofs.Counting.{lane_is}
use Rattle.lane_queues.proofs.RingLaneSteps.{counted_before}
use Rattle.lane_queues.proofs.RingLaneCalls.{first_of, drop_call, first-some}
use Rattle.lane_queues.proofs.ring_lanes.RingLanesLanes.drop_front.Goals as goal

pub pop-requires-clause-some : goal.pop-requires-clause-some
pop-requires-clause-some c =
    let r = rw (← c.self.view_is) at c.requires in
    let number = rw c.cfg-cfg.ensures.value at c.lane_number-number.ensures.value in
    let list = lane_is c.self.inside.rings c.args.src c.args.dst c.args.class c.lane_number-number.result r.from r.to number in
    rw list (first-some (lane_in c.self.inside.rings c.args.src c.args.dst c.args.class) c.args.departs r.front)

pub count_out-requires-clause-some : goal.count_out-requires-clause-some
count_out-requires-clause-some c =
    let r = rw (← c.self.view_is) at c.requires in
    let pair = rw c.cfg-cfg.ensures.value at c.pair_number.ensures.value in
    let leaves = first_of (lane_in c.self.inside.rings c.args.src c.args.dst c.args.class) c.args.departs r.front in
    rw (c.deref_mut.ensures.value, pair, leaves.counts) (counted_before c.self.inside.rings c.self.inside.evictions.items c.self.inside.busy c.self.invariant c.args.src c.args.dst c.args.class leaves.m r.from r.to leaves.first)

pub invariant_of-self : goal.invariant_of-self
invariant_of-self c =
    let r = rw (← c.self.view_is) at c.requires in
    let number = rw c.cfg-cfg.ensures.value at c.lane_number-number.ensures.value in
    let pair = rw c.cfg-cfg.ensures.value at c.pair_number.ensures.value in
    let call = drop_call c.self.inside.rings c.pop.new.self c.self.inside.evictions.items c.self.inside.busy c.self.invariant c.args.src c.args.dst c.args.class r.from r.to c.args.departs r.front c.lane_number-number.result number c.pop.ensures
    c.len-left.result c.len-left.ensures.value c.put.new.self c.put.ensures c.pair_number.result pair c.deref_mut.result.now c.count_out.new.counts c.deref_mut.ensures.value c.count_out.ensures in
    let whole = with_items_is c.self.inside.evictions c.count_out.new.counts (c.count_out.auto.counts ∙ c.deref_mut.ensures.len) in
    rw whole call.counted

pub returns-clause-after : goal.returns-clause-after
returns-clause-after c =
    let r = rw (← c.self.view_is) at c.requires in
    let number = rw c.cfg-cfg.ensures.value at c.lane_number-number.ensures.value in
    let pair = rw c.cfg-cfg.ensures.value at c.pair_number.ensures.value in
    let call = drop_call c.self.inside.rings c.pop.new.self c.self.inside.evictions.items c.self.inside.busy c.self.invariant c.args.src c.args.dst c.args.class r.from r.to c.args.departs r.front c.lane_number-number.result number c.pop.ensures
    c.len-left.result c.len-left.ensures.value c.put.new.self c.put.ensures c.pair_number.result pair c.deref_mut.result.now c.count_out.new.counts c.deref_mut.ensures.value c.count_out.ensures in
    rw (← c.self.view_is) call.after

pub returns-clause-kept : goal.returns-clause-kept
returns-clause-kept c =
    let r = rw (← c.self.view_is) at c.requires in
    let number = rw c.cfg-cfg.ensures.value at c.lane_number-number.ensures.value in
    let pair = rw c.cfg-cfg.ensures.value at c.pair_number.ensures.value in
    let call = drop_call c.self.inside.rings c.pop.new.self c.self.inside.evictions.items c.self.inside.busy c.self.invariant c.args.src c.args.dst c.args.class r.from r.to c.args.departs r.front c.lane_number-number.result number c.pop.ensures
    c.len-left.result c.len-left.ensures.value c.put.new.self c.put.ensures c.pair_number.result pair c.deref_mut.result.now c.count_out.new.counts c.deref_mut.ensures.value c.count_out.ensures in
    call.kept
