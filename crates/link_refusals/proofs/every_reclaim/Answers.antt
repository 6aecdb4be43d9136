use Rattle.link_refusals.proofs.Acks.{ended_reclaim}
use Rattle.link_refusals.proofs.every_reclaim.Goals as goal

pub returns : goal.returns
returns c = record { none_listed = λ charge trace events past positive runs src dst line rest victim done front is waits idle. ended_reclaim charge trace events past src dst line rest victim done positive runs front is waits idle }
