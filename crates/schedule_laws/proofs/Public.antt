-- What the crates above cite of the lemmas of this crate: they import this module alone.

pub use Rattle.schedule_laws.proofs.Courses.{course-append, course-run, course-schedule}
pub use Rattle.schedule_laws.proofs.Courses.{schedule-course}
pub use Rattle.schedule_laws.proofs.Settled.{AllSettle, message-settles, settles, still, still_sent}
pub use Rattle.schedule_laws.proofs.Under.{AllUnder, under-front, under-sent, under-taken}
pub use Rattle.schedule_laws.proofs.Settling.{GoesOn, IsTracked, IsUnderway, Settles, all-settle}
pub use Rattle.schedule_laws.proofs.Settling.{at-share, still-weight, tracked-after}
pub use Rattle.schedule_laws.proofs.Known.{IsUsual}
pub use Rattle.schedule_laws.proofs.RestLines.{IsRestLine, rest-line}
pub use Rattle.schedule_laws.proofs.Single.{AreEmpty, OnlyOne, OnlySent, first-one, none-sent}
pub use Rattle.schedule_laws.proofs.Single.{one-front, one-sent, one-taken, only-sent, sent-weight}
pub use Rattle.schedule_laws.proofs.Single.{under-empty}
pub use Rattle.schedule_laws.proofs.Takes.{same-front}
pub use Rattle.schedule_laws.proofs.Requests.{IsAnswered, IsBegunAs, IsForwarded, IsHandedOn}
pub use Rattle.schedule_laws.proofs.Requests.{IsPassive, ask-row, each-settles, forward-row}
pub use Rattle.schedule_laws.proofs.Requests.{forwardx-row, get-row}
pub use Rattle.schedule_laws.proofs.RestMoments.{listed-only, not-full}
pub use Rattle.schedule_laws.proofs.Asked.{serves-exclusive}
pub use Rattle.schedule_laws.proofs.Gets.{listed-weight}
pub use Rattle.schedule_laws.proofs.Alone.{IsAlone, absent-other, left-alone, other-none, other-some}
pub use Rattle.schedule_laws.proofs.Evicts.{IsEviction, evicts}
pub use Rattle.schedule_laws.proofs.Uniques.{finishing-unique}
pub use Rattle.schedule_laws.proofs.Lists.{at-end, count_by-push, find-first, find-none_of}
pub use Rattle.schedule_laws.proofs.Lists.{slice_get-filter}
pub use Rattle.schedule_laws.proofs.Finishes.{finishes, none-next, rest-quiet}
pub use Rattle.schedule_laws.proofs.Orders.{HaveDone, all-places, current-is, current-none}
pub use Rattle.schedule_laws.proofs.Orders.{done-more, done_before, next-op}
pub use Rattle.schedule_laws.proofs.Usual.{usual}
pub use Rattle.schedule_laws.proofs.Operations.{completes}
pub use Rattle.schedule_laws.proofs.Rounds.{rested-done}
pub use Rattle.schedule_laws.proofs.FromRest.{copies-after, gone-after, open-gate, places-after, tracked-first}
