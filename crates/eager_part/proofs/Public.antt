-- What the crates above cite of the lemmas of this crate: they import this module alone.

pub use Rattle.eager_part.proofs.Lines.{home-unlisted}
pub use Rattle.eager_part.proofs.Kept.{evict-kept, message-kept}
pub use Rattle.eager_part.proofs.EachAct.{each-act}
pub use Rattle.eager_part.proofs.Acts.{eager_act, line-of}
pub use Rattle.eager_part.proofs.Sends.{eager_sends}
pub use Rattle.eager_part.proofs.Starts.{eager_first}
pub use Rattle.eager_part.proofs.Needs.{fack-met, forward-facts, fwd_get-met, fwd_getx-met, get-met}
pub use Rattle.eager_part.proofs.Needs.{getx-met, idle-line, inv-met, inv_ack-met, nak-met}
pub use Rattle.eager_part.proofs.Needs.{nakc-met, put-met, putx-met, rpl-met, shwb-met, wb-met}
pub use Rattle.eager_part.proofs.OwnRuns.{AreOwn, own-event, own-run}
pub use Rattle.eager_part.proofs.Events.{each-event, each-taken, next, row-after}
pub use Rattle.eager_part.proofs.RangedRuns.{copy-in, ranged-run}
pub use Rattle.eager_part.proofs.LaneRuns.{messages_of_machine}
pub use Rattle.eager_part.proofs.BoundRuns.{bounded-run}
