-- What the crates above cite of the lemmas of this crate: they import this module alone.

pub use Rattle.link_refusals.proofs.Entries.{Found, found}
pub use Rattle.link_refusals.proofs.Reasons.{IsReason, clear-each, refuses_row, why-refused}
pub use Rattle.link_refusals.proofs.Acks.{last-listed}
