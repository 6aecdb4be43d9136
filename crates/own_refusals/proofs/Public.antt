-- What the crates above cite of the lemmas of this crate: they import this module alone.

pub use Rattle.own_refusals.proofs.Refused.{any-sent, linked}
