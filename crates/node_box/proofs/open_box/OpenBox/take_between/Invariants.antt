use Rattle.node_box.specs.Boxes.{IsBox}
use Rattle.node_box.specs.Lanes.{AreEmpty}
use Rattle.node_box.proofs.open_box.OpenBox.take_between.Given as goal

abbrev pub invariant-loop-place : goal.invariant-loop-place
invariant-loop-place l = IsBox l.t l.self × AreEmpty l.fn.self l.self l.first l.place
