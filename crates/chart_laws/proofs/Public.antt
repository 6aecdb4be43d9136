-- What the crates above cite of the lemmas of this crate: they import this module alone.

pub use Rattle.chart_laws.proofs.Following.{chart-told}
