-- By induction on the events.
use Rattle.bitvec_dir.proofs.Runs.{runs-unlinked, ends-agree, moments-alike, runs-linked}
use Rattle.bitvec_dir.proofs.laws.every_linkless_run.Goals as goal

pub returns-clause-runs : goal.returns-clause-runs
returns-clause-runs c = runs-unlinked

pub returns-clause-agree : goal.returns-clause-agree
returns-clause-agree c = ends-agree

pub returns-clause-alike : goal.returns-clause-alike
returns-clause-alike c = moments-alike

pub returns-clause-back : goal.returns-clause-back
returns-clause-back c = runs-linked
