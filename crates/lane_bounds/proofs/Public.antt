-- What the crates above cite of the lemmas of this crate: they import this module alone.

pub use Rattle.lane_bounds.proofs.Sums.{amount, contents-cons, over, over-cons, spread, weighed}
pub use Rattle.lane_bounds.proofs.Sums.{weighed-cons}
pub use Rattle.lane_bounds.proofs.Acts.{Act, after_row_of, just, lane-tagged, one-taken}
pub use Rattle.lane_bounds.proofs.Acts.{row-kept, sent_of, tag, taken_of}
unfoldable pub use Rattle.lane_bounds.proofs.Acts.{after_act}
pub use Rattle.lane_bounds.proofs.Effects.{IsActOf, IsEach, asks_victim, each-event, each-taken}
pub use Rattle.lane_bounds.proofs.Effects.{finds, is_fit, is_gated, row-just, row_at, taking}
pub use Rattle.lane_bounds.proofs.Allowed.{IsAllowed, begin-allowed, evict-allowed, hit-allowed}
pub use Rattle.lane_bounds.proofs.Allowed.{message-allowed}
pub use Rattle.lane_bounds.proofs.Sends.{Quiet, addressed-none, quiet-begin, quiet-each, quiet-hit}
pub use Rattle.lane_bounds.proofs.Sends.{quiet-message}
pub use Rattle.lane_bounds.proofs.Homes.{amount-header, headers-stay, links-after, links-bound}
pub use Rattle.lane_bounds.proofs.Homes.{one_if, own-after, pending-bound, pending-stays}
pub use Rattle.lane_bounds.proofs.Lanes.{departs-weighed, taken-either, weighed-sent}
pub use Rattle.lane_bounds.proofs.Evictions.{evict-fits}
pub use Rattle.lane_bounds.proofs.Kept.{IsBounded, IsMeasured, bounded-row, held-within}
pub use Rattle.lane_bounds.proofs.Kept.{measured-quiet, within-held}
pub use Rattle.lane_bounds.proofs.Events.{bounded-event, call-allowed, not-full}
pub use Rattle.lane_bounds.proofs.Runs.{bounded-run, bounded-start, keeps-run}
pub use Rattle.lane_bounds.proofs.Spelled.{asks-few, is_answer, is_ask, is_back, is_told, many}
pub use Rattle.lane_bounds.proofs.Spelled.{no-told, replies-few, reply-kinds, request-kinds}
pub use Rattle.lane_bounds.proofs.Spelled.{told-few}
pub use Rattle.lane_bounds.proofs.Counts.{all-kinds, begun-one, begun-wanted, begun_lines}
pub use Rattle.lane_bounds.proofs.Counts.{bounded_lanes, kind}
pub use Rattle.lane_bounds.proofs.OwnLanes.{own_lane}
pub use Rattle.lane_bounds.proofs.Ways.{lane_class}
