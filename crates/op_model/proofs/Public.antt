-- What the crates above cite of the lemmas of this crate: they import this module alone.

pub use Rattle.op_model.proofs.Runs.{length-moments, moment_of, moments-push, run-push, run-split}
pub use Rattle.op_model.proofs.Plain.{above_one, and_above_one, eqb-self, eqb-swap, err-ok}
pub use Rattle.op_model.proofs.Plain.{filter-passes, find-passes, last_of_four, last_two_parts}
pub use Rattle.op_model.proofs.Plain.{map-replicate, other_fails, parts_but_last, range-more}
pub use Rattle.op_model.proofs.Plain.{second_of_four, some_held, take-next, three_parts, total-add}
pub use Rattle.op_model.proofs.Plain.{never_passes, slice_get-middle, total-alike, total-zero}
pub use Rattle.op_model.proofs.Shares.{count-below, empty-copy, first_headers-same, fits-copy}
pub use Rattle.op_model.proofs.Shares.{free-want, idle-calm, idle-wait, in_order-listed}
pub use Rattle.op_model.proofs.Shares.{load-outstanding, no_message-empty, none-on, refused-for}
pub use Rattle.op_model.proofs.Shares.{same_class-is, same_class-self, serves-copy, unserved-shared}
pub use Rattle.op_model.proofs.Shares.{called-pends, forward-get, forward-getx, want-stays, write-outstanding}
pub use Rattle.op_model.proofs.Asks.{ask-undone, never-asks}
pub use Rattle.op_model.proofs.Entries.{get-put}
