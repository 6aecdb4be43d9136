-- What the crates above cite of the lemmas of this crate: they import this module alone.

pub use Rattle.eager_history.proofs.InOrder.{each-map, each-put-all, filter-order, in-order}
pub use Rattle.eager_history.proofs.InOrder.{put-last}
pub use Rattle.eager_history.proofs.Takes.{sound-meets}
pub use Rattle.eager_history.proofs.Runs.{sound-run}
pub use Rattle.eager_history.proofs.LineHistory.{one-line-history}
