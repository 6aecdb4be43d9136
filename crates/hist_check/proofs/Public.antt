-- What the crates above cite of the lemmas of this crate: they import this module alone.

pub use Rattle.hist_check.proofs.Programs.{same-program}
