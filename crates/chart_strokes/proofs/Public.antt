-- What the crates above cite of the lemmas of this crate: they import this module alone.

pub use Rattle.chart_strokes.proofs.Effects.{effect-is}
pub use Rattle.chart_strokes.proofs.Following.{charted-past, charted-push}
pub use Rattle.chart_strokes.proofs.Faithful.{IsFaithful, faithful, faithful-after, faithful-first}
pub use Rattle.chart_strokes.proofs.Faithful.{faithful-letters, msg_of}
