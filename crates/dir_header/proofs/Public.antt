-- What the crates above cite of the lemmas of this crate: they import this module alone.

pub use Rattle.dir_header.proofs.Directories.{held-linked, unlist-none, unlist-same}
pub use Rattle.dir_header.proofs.PlainLists.{held-nothing}
pub use Rattle.dir_header.proofs.Tables.{put-same}
pub use Rattle.dir_header.proofs.Sums.{sum-first, sum-insert}
pub use Rattle.dir_header.proofs.Changes.{pend}
pub use Rattle.dir_header.proofs.Returns.{some-listed}
pub use Rattle.dir_header.proofs.Shares.{header-put, put-put}
