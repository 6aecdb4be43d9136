-- Place by place.
use Rattle.one_journal.proofs.One.{merged_is, moved_is, one_is, only_is, quiet_part, same_logs}
use Rattle.one_journal.proofs.every_journal.Goals as goal

pub returns-clause-one : goal.returns-clause-one
returns-clause-one c = one_is

pub returns-clause-moved : goal.returns-clause-moved
returns-clause-moved c = moved_is

pub returns-clause-merged : goal.returns-clause-merged
returns-clause-merged c = merged_is

pub returns-clause-only : goal.returns-clause-only
returns-clause-only c = only_is

pub returns-clause-same : goal.returns-clause-same
returns-clause-same c = same_logs

pub returns-clause-quiet : goal.returns-clause-quiet
returns-clause-quiet c = quiet_part
