use Rattle.step_journal.proofs.Journals.{parts_numbered, parts_merged}
use Rattle.step_journal.proofs.merging.every_journal.Goals as goal

pub returns : goal.returns
returns c = record { numbered = parts_numbered; merged = parts_merged }
