-- What the crates above cite of the lemmas of this crate: they import this module alone.

pub use Rattle.pi_handlers.proofs.Rows.{allowed-idle, allowed-room, begin-called, write-waits}
pub use Rattle.pi_handlers.proofs.Acting.{permit-map}
