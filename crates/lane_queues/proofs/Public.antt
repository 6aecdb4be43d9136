-- What the crates above cite of the lemmas of this crate: they import this module alone.

pub use Rattle.lane_queues.proofs.LaneNumbers.{lane_number-lt, lane_number-one, same_lane-is}
pub use Rattle.lane_queues.proofs.FirstAnswers.{answer_defined}
pub use Rattle.lane_queues.proofs.RingLaneFirst.{narrowed}
