-- What the crates above cite of the lemmas of this crate: they import this module alone.

pub use Rattle.own_part.proofs.Basics.{above-none, all4, gets, getxs, idle-is, invalidates}
pub use Rattle.own_part.proofs.Basics.{none-between}
pub use Rattle.own_part.proofs.Effects.{IsEffect, IsQuiet, idle-exclusive, waits-so}
pub use Rattle.own_part.proofs.BackRows.{count-only, not-owned}
pub use Rattle.own_part.proofs.TakeRows.{at-home, message-keeps}
pub use Rattle.own_part.proofs.OwnRows.{IsBegun, begin-keeps, done-copy, evict-keeps, hit-keeps}
pub use Rattle.own_part.proofs.OwnRows.{leave-home-quiet, not-local}
pub use Rattle.own_part.proofs.ShareRows.{IsPartOf}
pub use Rattle.own_part.proofs.BegunRows.{begun-row, effect-row, free-row, quiet-row}
pub use Rattle.own_part.proofs.Acts.{own_act}
pub use Rattle.own_part.proofs.Runs.{own_run}
