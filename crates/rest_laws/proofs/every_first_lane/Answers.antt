-- A search of the lanes in their order finds one that isn't empty, or says that each is.
use Rattle.rest_laws.proofs.FirstLane.{first-some, first-none, clear-none, busy-some}
use Rattle.rest_laws.proofs.every_first_lane.Goals as goal

pub returns-clause-busy : goal.returns-clause-busy
returns-clause-busy c = λ sizes state lane e. let f = first-some sizes state lane e in (f.0.0, f.0.1, f.1)

pub returns-clause-some : goal.returns-clause-some
returns-clause-some c = busy-some

pub returns-clause-none : goal.returns-clause-none
returns-clause-none c = first-none

pub returns-clause-clear : goal.returns-clause-clear
returns-clause-clear c = clear-none
