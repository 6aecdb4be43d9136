use Rattle.std.proofs.Common.{◌≡◌, ◌*◌}
use Rattle.node_box.specs.Boxes.{IsBox}
use Rattle.node_box.specs.Lanes.{AreFlushed}
use Rattle.node_box.proofs.open_box.OpenBox.flush_all.Given as goal

abbrev pub invariant-loop-place : goal.invariant-loop-place
invariant-loop-place l = (l.places ≡ l.t.setup.sizes.nodes * 2) × IsBox l.t l.self × AreFlushed l.fn.self l.self l.place
