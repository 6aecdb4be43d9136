-- What the crates above cite of the lemmas of this crate: they import this module alone.

pub use Rattle.eager_report.proofs.Orders.{filter-kept}
