-- What the crates above cite of the lemmas of this crate: they import this module alone.

pub use Rattle.row_examples.proofs.Sets.{more_or_less, orders}
pub use Rattle.row_examples.proofs.Maps.{entries-empty, entries-put, get-none, get-put, maps}
pub use Rattle.row_examples.proofs.Maps.{over, remove-empty}
