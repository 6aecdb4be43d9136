use Rattle.eager_schedule.proofs.Lengths.{bounded_lanes}
use Rattle.eager_schedule.proofs.every_lane.Goals as goal

pub returns : goal.returns
returns c = record { bound = bounded_lanes }
