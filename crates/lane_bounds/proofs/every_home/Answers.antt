use Rattle.lane_bounds.proofs.Runs.{bounded_pending, bounded_links}
use Rattle.lane_bounds.proofs.every_home.Goals as goal

pub returns-clause-pending : goal.returns-clause-pending
returns-clause-pending c = λ charge trace events past positive runs n. bounded_pending trace events past n positive charge runs

pub returns-clause-links : goal.returns-clause-links
returns-clause-links c = λ charge trace events past positive runs n. bounded_links trace events past n positive charge runs
