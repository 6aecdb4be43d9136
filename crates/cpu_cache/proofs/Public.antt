-- What the crates above cite of the lemmas of this crate: they import this module alone.

pub use Rattle.cpu_cache.proofs.Sets.{filled, free_by_none, none_in_free, not_taken, taken_by}
pub use Rattle.cpu_cache.proofs.Copies.{get-put_copy, same_copies, stored}
