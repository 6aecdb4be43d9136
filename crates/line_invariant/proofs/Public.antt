-- What the crates above cite of the lemmas of this crate: they import this module alone.

pub use Rattle.line_invariant.proofs.Basics.{alone, if-either, owner-only}
pub use Rattle.line_invariant.proofs.FirstLine.{good-first}
pub use Rattle.line_invariant.proofs.Marks.{asks-no-put, at-one, done, keep, rests}
pub use Rattle.line_invariant.proofs.Fronts.{ack-comes, ack-first, answer-comes, fwd-first}
pub use Rattle.line_invariant.proofs.Fronts.{fwdx-first, getx-comes, replies-only, reply-home}
pub use Rattle.line_invariant.proofs.Fronts.{answer-first, get-first, getx-first, request-away, rpl-first, silent-home, wb-first}
pub use Rattle.line_invariant.proofs.RemoteLanes.{lanes-answer, lanes-ask, lanes-inv, lanes-leave}
pub use Rattle.line_invariant.proofs.RemoteNodes.{node-inv, node-nak, node-put}
pub use Rattle.line_invariant.proofs.RemoteRows.{answered}
pub use Rattle.line_invariant.proofs.HomeLanes.{addressed-listed, all_in, all_told, lanes-ack}
pub use Rattle.line_invariant.proofs.HomeLanes.{lanes-all-quiet, lanes-call, lanes-quiet}
pub use Rattle.line_invariant.proofs.HomeLanes.{lanes-reply, lanes-same, no-replies}
pub use Rattle.line_invariant.proofs.HomeNodes.{node-acked, node-all-in, node-called}
pub use Rattle.line_invariant.proofs.HomeNodes.{node-may-share, node-refused}
pub use Rattle.line_invariant.proofs.HomeRows.{clean-phase, home-phase, home-rests}
pub use Rattle.line_invariant.proofs.AckRows.{called-phase}
pub use Rattle.line_invariant.proofs.LocalNodes.{after-load, bare-any, done-load, leaving_by}
pub use Rattle.line_invariant.proofs.LocalNodes.{node-ask, node-leave, node-putx, node-writes}
pub use Rattle.line_invariant.proofs.LocalNodes.{serving-rests}
pub use Rattle.line_invariant.proofs.LocalRows.{good-call-in}
pub use Rattle.line_invariant.proofs.ForwardNodes.{asked-phase, node-holds}
pub use Rattle.line_invariant.proofs.LeaveRows.{lanes-departed, node-wrote-back}
pub use Rattle.line_invariant.proofs.Takes.{good-take}
pub use Rattle.line_invariant.proofs.MeetsRow.{meets-take}
pub use Rattle.line_invariant.proofs.Wants.{done-right, keeps-want}
pub use Rattle.line_invariant.proofs.Served.{idle-answered, put-answered, served-take, wants-empty}
pub use Rattle.line_invariant.proofs.Served.{writes-answered}
pub use Rattle.line_invariant.proofs.Locals.{good-begin, good-evict, good-hit, good-reclaim}
pub use Rattle.line_invariant.proofs.Locals.{hit-fresh, linked-clean, node-fresh}
pub use Rattle.line_invariant.proofs.Away.{away-begin, away-evict, away-meets, away-message}
pub use Rattle.line_invariant.proofs.Away.{begin-ends, same-alone, stays-empty, stays-still}
