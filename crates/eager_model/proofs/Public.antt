-- What the crates above cite of the lemmas of this crate: they import this module alone.

pub use Rattle.eager_model.proofs.FirstLine.{good-first-line}
pub use Rattle.eager_model.proofs.ServedAt.{above}
pub use Rattle.eager_model.proofs.AnyLine.{begins-elsewhere, eager-alone, eager-elsewhere}
pub use Rattle.eager_model.proofs.AnyLine.{eager-empty, eager-want}
pub use Rattle.eager_model.proofs.EachLine.{any-aged, any-bare, any-begin, any-done, any-front}
pub use Rattle.eager_model.proofs.EachLine.{any-hit, any-idle, any-leave, any-local, any-served}
pub use Rattle.eager_model.proofs.EachLine.{any-take, any-writes, any_room}
