-- What the crates above cite of the lemmas of this crate: they import this module alone.

pub use Rattle.home_getx.proofs.Gives.{Does, called-in}
pub use Rattle.home_getx.proofs.Granted.{few-test, last-one, more-test}
