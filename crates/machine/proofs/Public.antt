-- What the crates above cite of the lemmas of this crate: they import this module alone.

pub use Rattle.machine.proofs.Sendings.{All-at, sent_by-nil}
pub use Rattle.machine.proofs.Faces.{map-set_same, slice_get-mapped, slice_get-read}
pub use Rattle.machine.proofs.Faces.{slice_get-set_at, slice_get-set_other}
pub use Rattle.machine.proofs.Doing.{done-some, fits-event, sends-room, served-fills}
pub use Rattle.machine.proofs.Services.{begun-op, evicted, is_for, row-quiet, row-undone, row-want}
pub use Rattle.machine.proofs.Lists.{front-is, rest_of}
pub use Rattle.machine.proofs.Programs.{of-machine, program-of, trace_by}
pub use Rattle.machine.proofs.Laws.{programs-each, some-words}
pub use Rattle.machine.proofs.ServedAfter.{served-after}
pub use Rattle.machine.proofs.Starts.{below_or_at, slice_get-push_below}
pub use Rattle.machine.proofs.Views.{true_of}
pub use Rattle.machine.proofs.Others.{copy-is, other-none, other-some}
pub use Rattle.machine.proofs.Drives.{made-running}
