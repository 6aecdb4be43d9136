-- What the crates above cite of the lemmas of this crate: they import this module alone.

pub use Rattle.eager_schedule.proofs.Quiet.{resting}
pub use Rattle.eager_schedule.proofs.Runs.{ran-first, run-rest}
pub use Rattle.eager_schedule.proofs.Serials.{serial-each, serial-ends}
pub use Rattle.eager_schedule.proofs.Promised.{keeps_promise}
pub use Rattle.eager_schedule.proofs.Places.{places-rise}
