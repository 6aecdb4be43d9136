-- What the crates above cite of the lemmas of this crate: they import this module alone.

pub use Rattle.one_journal.proofs.One.{only_is}
