-- A row that ends an operation ends the one at the place.
use Rattle.eager_part.proofs.Places.{eager_placed}
use Rattle.eager_part.proofs.every_own_place.Goals as goal

pub returns : goal.returns
returns c = record { kept = eager_placed }
