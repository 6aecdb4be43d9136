use Rattle.std.proofs.Common.{◌≡◌, ◌≤◌, length, map, take}
use Rattle.std.specs.Vec.{vec_capacity}
use Rattle.line_map.specs.Sizes.{Sizes}
use Rattle.op_model.specs.Shares.{Lanes}
use Rattle.op_model.specs.Run.History.{kept_of}
use Rattle.machine.specs.Faces.{face_of}
use Rattle.machine.specs.Kept.{state_of}
use Rattle.machine.proofs.entries.completed.Given as goal

abbrev pub invariant-loop-entry : goal.invariant-loop-entry
invariant-loop-entry g l =
    record {
      kept : (sizes : Sizes) (lane : Lanes) → l.entries.items ≡ kept_of (state_of sizes (map (face_of {D = g.row.D.Denot}) l.nodes.items) lane) (take l.entry-index l.served);
      fits : length l.entries.items ≤ l.entry-index;
      room : length l.served ≤ vec_capacity l.entries;
    }
