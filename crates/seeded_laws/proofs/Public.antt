-- What the crates above cite of the lemmas of this crate: they import this module alone.

pub use Rattle.seeded_laws.proofs.Drawn.{AlwaysAnswers, Drawn, drawn-chosen, drawn-run, draws}
pub use Rattle.seeded_laws.proofs.Finishing.{finish-ends}
pub use Rattle.seeded_laws.proofs.Seeded.{made-seeded}
pub use Rattle.seeded_laws.proofs.Commands.{always-chosen}
