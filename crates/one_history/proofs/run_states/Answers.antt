-- By induction on the events.
use Rattle.one_history.proofs.States.{states_of, states_snoc}
use Rattle.one_history.proofs.run_states.Goals as goal

pub returns-clause-same : goal.returns-clause-same
returns-clause-same c = states_of

pub returns-clause-more : goal.returns-clause-more
returns-clause-more c = states_snoc
