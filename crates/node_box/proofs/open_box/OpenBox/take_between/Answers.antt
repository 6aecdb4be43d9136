use Rattle.std.proofs.Common.{subst}
use Rattle.node_box.specs.Boxes.{BoxView}
use Rattle.node_box.specs.Events.{Takes}
use Rattle.node_box.proofs.Searching.{empty_none}
use Rattle.node_box.proofs.open_box.OpenBox.take_between.Goals as goal

pub loop-place-init : goal.loop-place-init
loop-place-init c = (c.requires.kept, empty_none c.args.self.now c.args.first)

pub returns-in-Some-clause-some : goal.returns-in-Some-clause-some
returns-in-Some-clause-some c =
    record {
      before = c.loop-place.self;
      found = c.look.new.self;
      src = c.lane_at-src.result.0;
      class = c.lane_at-src.result.1;
      msg = c.in-Some.msg;
      victim = c.victim_for-victim.result;
      looks = c.loop-place.invariant.1.only;
      finds = c.in-Some.ensures.some;
      only = c.in-Some.ensures.only;
      by_link = c.victim_for-victim.ensures.by_link;
      takes = subst (λ (x : BoxView). Takes x c.take.new.self c.lane_at-src.result.0 c.lane_at-src.result.1 c.in-Some.msg c.victim_for-victim.result c.take.result) c.self.view_is c.take.ensures.takes;
    }
