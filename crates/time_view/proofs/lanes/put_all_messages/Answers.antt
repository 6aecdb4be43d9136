use Rattle.std.proofs.Common.{◌≡◌, ℕ, ap, subst, arith}
use Rattle.std.specs.List.{flat_map, range_with_len}
use Rattle.line_map.specs.Sizes.{Sizes}
use Rattle.op_model.specs.Run.Schedules.{all_nodes, both_lanes, lanes_in_order}
use Rattle.time_view.specs.States.{lane_lines}
use Rattle.time_view.specs.Puts.{ArePut}
use Rattle.time_view.proofs.Putting.{lanes_put}
use Rattle.time_view.proofs.lanes.put_all_messages.Goals as goal

pub loop-src-preserved : goal.loop-src-preserved
loop-src-preserved g c =
    let m = g.M.Reported.meaning c.args.m.now in
    record {
      put = lanes_put (lane_lines m.past.state) (λ src. flat_map (both_lanes src) (all_nodes m.sizes)) c.args.out.now.items c.loop-src.out.items c.put_from.new.out.items c.loop-src.count c.in_ok-count.field-0 c.loop-src.src c.loop-src.invariant.put c.in_ok-count.ensures.put;
      few = omega (arith, c.loop-src.invariant.few, c.in_ok-count.ensures.few);
    }

pub returns : goal.returns
unfolding lanes_in_order
returns g c =
    let m = g.M.Reported.meaning c.args.m.now in
    let same : c.cfg.result.nodes ≡ m.sizes.nodes = ap (λ (s : Sizes). s.nodes) c.cfg.ensures.value in
    let all : c.loop-src.src ≡ m.sizes.nodes = omega (arith, c.nodes-src-end.ensures.value) in
    subst (λ (n : ℕ). ArePut c.args.out.now.items c.loop-src.out.items c.loop-src.count (flat_map (lane_lines m.past.state) (flat_map (λ src. flat_map (both_lanes src) (all_nodes m.sizes)) (range_with_len 0 n)))) all c.loop-src.invariant.put
