use Rattle.std.proofs.Common.{◌*◌, ap, ◌∙◌}
use Rattle.node_box.specs.Boxes.{BoxView}
use Rattle.node_box.proofs.Serving.{flushed_none, flushed_next}
use Rattle.node_box.proofs.open_box.OpenBox.flush_all.Goals as goal

pub loop-place-init : goal.loop-place-init
loop-place-init c =
    let kept = c.requires.kept in
    let sizes = ap (λ (x : BoxView). x.out.sizes.nodes) c.self.view_is ∙ ap (λ z. z.nodes) (kept.machine ∙ kept.seat.part.machine) in
    (ap (λ n. n * 2) (c.nodes-places.ensures.value ∙ ap (λ z. z.nodes) c.cfg.ensures.value ∙ sizes), kept, flushed_none c.args.self.now)

pub loop-place-preserved : goal.loop-place-preserved
loop-place-preserved c =
    (c.loop-place.invariant.0, c.flush_lane.ensures.kept, flushed_next c.args.self.now c.loop-place.self c.flush_lane.new.self c.lane_at-dst.result.0 c.lane_at-dst.result.1 c.loop-place.place c.lane_at-dst.ensures c.loop-place.invariant.2 c.flush_lane.ensures.lane)
