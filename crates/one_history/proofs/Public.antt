-- What the crates above cite of the lemmas of this crate: they import this module alone.

pub use Rattle.one_history.proofs.Shares.{IsOn, after_row_of, copy-other, copy-same, header-other}
pub use Rattle.one_history.proofs.Shares.{header-same, of_line-append, of_line-behind}
pub use Rattle.one_history.proofs.Shares.{of_line-front, of_line-other, of_line-same, taken_of}
pub use Rattle.one_history.proofs.Shares.{want-other, want-same}
pub use Rattle.one_history.proofs.Project.{project-marks, project-other, project-row, project-taken}
pub use Rattle.one_history.proofs.Project.{project-taken-other}
pub use Rattle.one_history.proofs.Flat.{entry-here, entry-legal}
pub use Rattle.one_history.proofs.LocalRoom.{local_room}
pub use Rattle.one_history.proofs.Sets.{IsRoomFor, any-found, any-none, cached-row, found}
pub use Rattle.one_history.proofs.Sets.{none-conflicts, room-issue, waits-alone}
pub use Rattle.one_history.proofs.Order.{IsNextWant, begun-next, by-append, next-on, ordered-done}
pub use Rattle.one_history.proofs.Order.{follows-push, ordered-own, ordered-row, ordered-served, wanted}
pub use Rattle.one_history.proofs.Nodes.{IsServedIn, nodes-after, own-done, own-served}
pub use Rattle.one_history.proofs.Nodes.{own-want, unserved-before}
pub use Rattle.one_history.proofs.Sound.{after-append, legal-append}
pub use Rattle.one_history.proofs.Completed.{Done_or_load, Each, by-node, each-served, legal-kept, of-node}
pub use Rattle.one_history.proofs.Rows.{kept-fits}
pub use Rattle.one_history.proofs.Owns.{IsOwn, at-home, call-past, none-dropped, one-dropped}
pub use Rattle.one_history.proofs.Owns.{own-ok, own-past, own-row, to_lane-append}
pub use Rattle.one_history.proofs.Events.{IsQuiet, evict-quiet, header-kept, hit-away, keeps-event}
pub use Rattle.one_history.proofs.Events.{message-own, refuses}
pub use Rattle.one_history.proofs.Runs.{first-copy, first-header, first-line, sound-from}
pub use Rattle.one_history.proofs.Runs.{sound-start}
pub use Rattle.one_history.proofs.RowMet.{front_meets, meets-whole, sound-meets}
pub use Rattle.one_history.proofs.Moves.{put-stays}
pub use Rattle.one_history.proofs.OneHistory.{by-kept, kept-first, one_history}
