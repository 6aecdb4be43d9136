use Rattle.std.proofs.Common.{◌≡◌, ◌≤◌, filter, length, take}
use Rattle.std.specs.Vec.{vec_capacity}
use Rattle.line_map.specs.Sizes.{Sizes}
use Rattle.op_model.specs.Run.History.{is_completed}
use Rattle.eager_machine.specs.Kept.{state_of}
use Rattle.eager_machine.specs.Lanes.{UnderWay}
use Rattle.eager_machine.proofs.text.completed.Given as goal

abbrev pub invariant-loop-aged : goal.invariant-loop-aged
invariant-loop-aged l =
    record {
      kept : (sizes : Sizes) (way : UnderWay) → l.entries.items ≡ filter (λ aged. is_completed (state_of sizes l.nodes.items way) aged.entry) (take l.aged-index l.served);
      fits : length l.entries.items ≤ l.aged-index;
      room : length l.served ≤ vec_capacity l.entries;
    }
