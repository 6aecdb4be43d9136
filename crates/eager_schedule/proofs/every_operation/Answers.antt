use Rattle.eager_schedule.proofs.Operations.{each_operation}
use Rattle.eager_schedule.proofs.every_operation.Goals as goal

pub returns : goal.returns
returns c = record { ends = each_operation }
