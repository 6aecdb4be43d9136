use Rattle.std.proofs.Common.{◌≡◌, inl, inr, sym, subst, ◌*◌}
use Rattle.node_box.specs.Boxes.{BoxView}
use Rattle.node_box.specs.Lanes.{AreEmpty}
use Rattle.node_box.specs.Turns.{Controls, IsIdle, IsDue, Reclaims}
use Rattle.node_box.proofs.Searching.{map_some, when_none}
use Rattle.node_box.proofs.open_box.OpenBox.control.Goals as goal

pub returns-in-Some-clause-did : goal.returns-in-Some-clause-did
returns-in-Some-clause-did c = record { flushed = c.flush_all.new.self; flushes = c.flush_all.ensures.lanes; does = inl c.in-Some.ensures.some }

pub returns-clause-did : goal.returns-clause-did
returns-clause-did c =
    let nodes = c.args.t.now.setup.sizes.nodes in
    map_some c.reclaim.result (Reclaims c.take_any.new.self c.reclaim.new.self c.args.link) (Controls nodes c.args.self.now c.reclaim.new.self c.args.link)
    (λ n h. record { flushed = c.flush_all.new.self; flushes = c.flush_all.ensures.lanes; does = inr (c.take_any.new.self, c.in_default.ensures.none, h) }) c.reclaim.ensures.some

pub returns-clause-idle : goal.returns-clause-idle
returns-clause-idle c =
    let nodes = c.args.t.now.setup.sizes.nodes in
    when_none c.reclaim.result (c.reclaim.new.self ≡ c.take_any.new.self) (IsIdle nodes c.args.self.now c.reclaim.new.self c.args.link)
    (λ none same. record {
      flushed = c.flush_all.new.self;
      flushes = c.flush_all.ensures.lanes;
      empty = subst (λ (x : BoxView). AreEmpty c.flush_all.new.self x 0 (nodes * 2)) (sym same) c.in_default.ensures.none;
      undue = λ line due. c.reclaim.ensures.due none line (subst (λ (x : BoxView). IsDue x c.args.link line) same due);
    }) c.reclaim.ensures.none
