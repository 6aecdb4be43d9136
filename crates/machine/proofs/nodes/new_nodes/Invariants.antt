use Rattle.std.proofs.Common.{◌≡◌, map}
use Rattle.std.specs.Prelude.{All}
use Rattle.std.specs.Vec.{vec_capacity}
use Rattle.machine.specs.Faces.{face_of, dir_of}
use Rattle.machine.proofs.Starts.{IsStarting}
use Rattle.machine.proofs.nodes.new_nodes.Given as goal

abbrev pub invariant-loop-program : goal.invariant-loop-program
invariant-loop-program g l =
    record {
      starting : IsStarting l.fn.cfg g.D.Sharers.directory l.fn.programs.items l.program-iterator.rest.items l.fn.dirs.items l.dirs.rest.items (map (face_of {D = g.row.D.Denot}) l.nodes.items) (map (dir_of {D = g.row.D.Denot}) l.nodes.items);
      sound : All g.D.Sharers.is_sound (map (dir_of {D = g.row.D.Denot}) l.nodes.items);
      room : vec_capacity l.nodes ≡ l.fn.cfg.nodes;
    }
