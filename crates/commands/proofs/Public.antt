-- What the crates above cite of the lemmas of this crate: they import this module alone.

pub use Rattle.commands.proofs.Replayed.{one-more, refused-here}
pub use Rattle.commands.proofs.Played.{of-machine}
pub use Rattle.commands.proofs.Programs.{all-programs, own-programs, programs-in}
pub use Rattle.commands.proofs.Followed.{event-of}
