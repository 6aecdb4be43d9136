-- What the crates above cite of the lemmas of this crate: they import this module alone.

pub use Rattle.node_range.proofs.Tables.{begin-in, call-in-in, evict-in, message-in, reclaim-in}
pub use Rattle.node_range.proofs.Programs.{in-program, next-in}
pub use Rattle.node_range.proofs.Rows.{ranged-row}
pub use Rattle.node_range.proofs.Events.{ranged-event, ranged-run, ranged_lanes}
pub use Rattle.node_range.proofs.Traces.{order-in, order-programs, trace-in, trace-programs}
pub use Rattle.node_range.proofs.Traces.{trace_in, turn-in, turn-programs, turn_of}
