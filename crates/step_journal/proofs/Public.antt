-- What the crates above cite of the lemmas of this crate: they import this module alone.

pub use Rattle.step_journal.proofs.Kept.{TakesSection, section_good}
pub use Rattle.step_journal.proofs.Again.{below_4096, below_64, end_line, section_again}
pub use Rattle.step_journal.proofs.Again.{steps_plain, text_again}
pub use Rattle.step_journal.proofs.Named.{Names, Refuses, section_told}
pub use Rattle.step_journal.proofs.Journals.{parts_numbered}
