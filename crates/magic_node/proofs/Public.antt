-- What the crates above cite of the lemmas of this crate: they import this module alone.

pub use Rattle.magic_node.proofs.Kept.{for-other, input-of}
pub use Rattle.magic_node.proofs.Handled.{IsQuiet, getx-quiet, nak-does, none-away, put-sends}
pub use Rattle.magic_node.proofs.Handled.{putx-sends, rpl-quiet, rpl-sends, some-wanted}
pub use Rattle.magic_node.proofs.Told.{leaves, leaves-may, stays}
