-- What the crates above cite of the lemmas of this crate: they import this module alone.

pub use Rattle.trace_text.proofs.Spelled.{read_spelled}
