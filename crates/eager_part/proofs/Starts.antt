-- At the start a node's share is as in the delayed core, and no line drains.
use Rattle.std.proofs.Common.{ℕ, List, ap}
use Rattle.line_map.specs.Sizes.{Sizes}
use Rattle.op_model.specs.declared.operations.Op.{Op}
use Rattle.op_model.specs.Run.Runs.{start_share}
use Rattle.op_model.specs.Shares.{Unlinked, line_share}
use Rattle.op_model.specs.Tables.Remote.{is_invalidate}
use Rattle.one_history.proofs.Public.{first-header}
use Rattle.message_range.proofs.Public.{own-first}
use Rattle.eager_part.specs.Part.{IsEagerPart}
use Rattle.eager_part.proofs.Lines.{as-eager}

pub eager_first : (sizes : Sizes) (node : ℕ) (program : List Op) → IsEagerPart sizes node program (start_share sizes node)
eager_first sizes node program =
    let own = own-first Unlinked sizes node program in
    record {
      outstanding = own.outstanding;
      lines = λ line home. as-eager node _ (line_share sizes (start_share sizes node) line) (ap (λ h. is_invalidate h.wait) (first-header sizes node line)) (own.lines line home);
      pending = own.pending;
      sets = own.sets;
      headers = own.headers;
    }
