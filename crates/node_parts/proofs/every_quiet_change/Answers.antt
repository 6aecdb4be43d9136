-- The composed state is a function of these three.
use Rattle.node_parts.proofs.Composed.{compose_alike, compose_same}
use Rattle.node_parts.proofs.every_quiet_change.Goals as goal

pub returns-clause-same : goal.returns-clause-same
returns-clause-same c = λ parts node part share sent taken. compose_same parts node part (λ i. (share i, (sent i, taken i)))

pub returns-clause-alike : goal.returns-clause-alike
returns-clause-alike c = λ parts node p q share sent taken. compose_alike parts node p q (λ i. (share i, (sent i, taken i)))
