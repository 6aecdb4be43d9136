-- What the crates above cite of the lemmas of this crate: they import this module alone.

pub use Rattle.node_share.proofs.Homes.{Puts, full-stays, home-headers, not-full, on-ok, put-same}
pub use Rattle.node_share.proofs.Homes.{puts-as, puts-none, puts-once, puts-read, puts-then}
pub use Rattle.node_share.proofs.Copies.{copy-kept, copy-put_other}
pub use Rattle.node_share.proofs.Rows.{at-home, away-row, header-row, home-row, is-away, own-done}
pub use Rattle.node_share.proofs.Rows.{own-outcome, own-row, picks, row-share, tells-for}
pub use Rattle.node_share.proofs.Rows.{tells-none}
pub use Rattle.node_share.proofs.Taken.{load_test}
pub use Rattle.node_share.proofs.Wants.{done-load, done-write, effect-for, effect-load, effect-none}
pub use Rattle.node_share.proofs.Wants.{effect-own, on-line, sent-none, set-free, set-unserved}
pub use Rattle.node_share.proofs.Wants.{set-untaken, some-waits, want-gone, want-is, write-is}
