use Rattle.line_invariant.proofs.Away.{away-message, away-begin, away-evict}
use Rattle.line_invariant.proofs.every_row_elsewhere.Goals as goal

pub returns-clause-message : goal.returns-clause-message
returns-clause-message c = λ node home from share header alone room content apart. away-message node home apart share header from alone room content

pub returns-clause-beginning : goal.returns-clause-beginning
returns-clause-beginning c = λ node home share header room op apart. away-begin node home apart share header room op

pub returns-clause-eviction : goal.returns-clause-eviction
returns-clause-eviction c = λ node home share header kind apart. away-evict node home apart share header kind
