-- What the crates above cite of the lemmas of this crate: they import this module alone.

pub use Rattle.eager_rest.proofs.Falls.{falling_take, falling_weight}
pub use Rattle.eager_rest.proofs.Deliver.{delivery-done, delivery-takes}
