-- What the crates above cite of the lemmas of this crate: they import this module alone.

pub use Rattle.line_map.proofs.Sizable.{few-nodes, some-words}
