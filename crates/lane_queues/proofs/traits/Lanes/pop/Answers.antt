-- The first message leaves, and where there is none the lanes stay as they are.
use Rattle.lane_queues.proofs.Popped.{has_front, popped_nothing}
use Rattle.lane_queues.proofs.traits.Lanes.pop.Goals as goal
