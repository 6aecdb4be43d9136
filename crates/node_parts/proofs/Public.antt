-- What the crates above cite of the lemmas of this crate: they import this module alone.

pub use Rattle.node_parts.proofs.Basics.{some_when}
pub use Rattle.node_parts.proofs.Composed.{compose_same, core}
pub use Rattle.node_parts.proofs.OwnChange.{own_change, own_evict, own_hit, own_issue, own_reclaim}
pub use Rattle.node_parts.proofs.OwnChange.{own_take}
pub use Rattle.node_parts.proofs.Runs.{run_goes_on}
pub use Rattle.node_parts.proofs.Journal.{journal-start, ticket_drawn, total-put}
