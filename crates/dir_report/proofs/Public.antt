-- What the crates above cite of the lemmas of this crate: they import this module alone.

pub use Rattle.dir_report.proofs.Appended.{on_ok_then}
pub use Rattle.dir_report.proofs.Ranges.{flat_map-range_more, flat_map-take_more, printed_more}
pub use Rattle.dir_report.proofs.Still.{header_first}
