-- What a node does by itself: but for an issue, as in the delayed core where lists cost no links.
use Rattle.std.proofs.Common.{◌≡◌, ℕ, Bool, List, Err, refl}
use Rattle.line_map.specs.Sizes.{Sizes}
use Rattle.op_model.specs.declared.events.Cause.TheVariants.{NoLinks}
use Rattle.op_model.specs.declared.events.EvictKind.{EvictKind}
use Rattle.op_model.specs.declared.operations.Op.{Op}
use Rattle.op_model.specs.Shares.{Share, Unlinked}
use Rattle.op_model.specs.Events.Node.{EvictLine, HitNext, NodeOutcome, ReclaimLine, evict_line, permit}
use Rattle.op_model.specs.Events.Node as delayed
use Rattle.op_model.specs.Tables.Processor.{reclaim}
use Rattle.eager_model.specs.Node.{local}

module _ (sizes : Sizes) (node : ℕ) (program : List Op) (share : Share) where
  pub as-hit : delayed.local Unlinked sizes node program share HitNext ≡ local sizes node program share HitNext
  unfolding local
  as-hit = refl

  pub as-evicted : (line : ℕ) (kind : EvictKind) (gate : Bool) → delayed.local Unlinked sizes node program share (EvictLine line kind gate) ≡ local sizes node program share (EvictLine line kind gate)
  unfolding local
  as-evicted line kind gate = refl

  -- no list holds a link
  pub no-links : (line : ℕ) → local sizes node program share (ReclaimLine line) ≡ Err NoLinks
  unfolding local delayed.local reclaim
  no-links line = refl
