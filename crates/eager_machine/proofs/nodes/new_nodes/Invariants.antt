use Rattle.std.proofs.Common.{◌≡◌}
use Rattle.std.specs.Vec.{vec_capacity}
use Rattle.eager_machine.proofs.Starts.{IsStarting}
use Rattle.eager_machine.proofs.nodes.new_nodes.Given as goal

abbrev pub invariant-loop-program : goal.invariant-loop-program
invariant-loop-program l =
    record {
      starting : IsStarting l.fn.cfg l.fn.programs.items l.program-iterator.rest.items l.nodes.items;
      room : vec_capacity l.nodes ≡ l.fn.cfg.nodes;
    }
