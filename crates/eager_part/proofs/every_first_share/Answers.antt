-- As in the delayed core: no line drains.
use Rattle.eager_part.proofs.Starts.{eager_first}
use Rattle.eager_part.proofs.every_first_share.Goals as goal

pub returns : goal.returns
returns c = record { own = eager_first }
