-- What the crates above cite of the lemmas of this crate: they import this module alone.

pub use Rattle.lane_table.proofs.Fields.{at_else, at_here, lane_tells}
pub use Rattle.lane_table.proofs.Looking.{only_notes}
pub use Rattle.lane_table.proofs.Outboxes.{has_place, last_flushed, outbox_after, sent_more}
pub use Rattle.lane_table.proofs.SmallRun.{answering, answering_clears, answers, asking}
pub use Rattle.lane_table.proofs.SmallRun.{asking_waits, at_none, at_some, cleared_again, drew}
pub use Rattle.lane_table.proofs.SmallRun.{get_is, goes, has_asked, issue_is, put_is, small-sizes}
