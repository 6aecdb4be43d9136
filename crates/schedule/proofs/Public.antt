-- What the crates above cite of the lemmas of this crate: they import this module alone.

pub use Rattle.schedule.proofs.Current.{completed-none, op-at-in, read-current, read-end, read-more}
pub use Rattle.schedule.proofs.Serials.{indexed, order-ops}
