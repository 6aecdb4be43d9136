-- What the crates above cite of the lemmas of this crate: they import this module alone.

pub use Rattle.message_range.proofs.Sets.{below-others, length-listed, owner-listed}
pub use Rattle.message_range.proofs.Rows.{IsFitting, IsWide, IsWideLine, evict-fits, hit-fits}
pub use Rattle.message_range.proofs.Rows.{listed-sends, none-few, one-few, op-width}
pub use Rattle.message_range.proofs.TakeRows.{begin-fits, message-fits}
pub use Rattle.message_range.proofs.Shares.{away-all, content-in, length-messages, row-share}
pub use Rattle.message_range.proofs.Shares.{sent-all, share-line}
pub use Rattle.message_range.proofs.Acts.{IsActed, every-act, evicts-copy, reclaims-holder}
pub use Rattle.message_range.proofs.Places.{act-placed}
pub use Rattle.message_range.proofs.Events.{IsDone, IsGiven, done-by, filled, program-of}
pub use Rattle.message_range.proofs.Runs.{messages_for_others, messages_of_machine, own-first}
pub use Rattle.message_range.proofs.Runs.{share-first, share-fits}
pub use Rattle.message_range.proofs.HomeRows.{apart-listed}
