-- What the crates above cite of the lemmas of this crate: they import this module alone.

pub use Rattle.serial_steps.proofs.Next.{current-same, done-at-least, found, is-below, is-over}
pub use Rattle.serial_steps.proofs.Next.{next-op, open_op}
