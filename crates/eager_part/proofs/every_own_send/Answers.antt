-- By the rows, each put into the share of its node.
use Rattle.eager_part.proofs.Sends.{eager_sends}
use Rattle.eager_part.proofs.every_own_send.Goals as goal

pub returns-clause-kept : goal.returns-clause-kept
returns-clause-kept c = λ sizes node program share input out are at ops part of is e. (eager_sends sizes node program share input out are at ops part of is e).share

pub returns-clause-sent : goal.returns-clause-sent
returns-clause-sent c = λ sizes node program share input out are at ops part of is e. (eager_sends sizes node program share input out are at ops part of is e).sent

pub returns-clause-served : goal.returns-clause-served
returns-clause-served c = λ sizes node program share input out are at ops part of is e. (eager_sends sizes node program share input out are at ops part of is e).served

pub returns-clause-few : goal.returns-clause-few
returns-clause-few c = λ sizes node program share input out are at ops part of is e. (eager_sends sizes node program share input out are at ops part of is e).few

pub returns-clause-elsewhere : goal.returns-clause-elsewhere
returns-clause-elsewhere c = λ sizes node program share input out are at ops part of is asked e. (eager_sends sizes node program share input out are at ops part of is e).away asked
