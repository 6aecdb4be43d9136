-- Each test of an own step is met.
use Rattle.node_parts.proofs.OwnChange.{own_evict, own_hit, own_issue, own_reclaim, own_take}
use Rattle.node_parts.proofs.every_own_outcome.Goals as goal

pub returns-clause-hit : goal.returns-clause-hit
returns-clause-hit c = own_hit

pub returns-clause-issue : goal.returns-clause-issue
returns-clause-issue c = own_issue

pub returns-clause-evict : goal.returns-clause-evict
returns-clause-evict c = own_evict

pub returns-clause-take : goal.returns-clause-take
returns-clause-take c = own_take

pub returns-clause-reclaim : goal.returns-clause-reclaim
returns-clause-reclaim c = own_reclaim
