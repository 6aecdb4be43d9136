-- What the crates above cite of the lemmas of this crate: they import this module alone.

pub use Rattle.link_store.proofs.Times.{contains_times, times_contains}
