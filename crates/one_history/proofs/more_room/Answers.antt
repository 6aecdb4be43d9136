-- The gate on evictions only refuses.
use Rattle.one_history.proofs.LocalRoom.{local_room}
use Rattle.one_history.proofs.more_room.Goals as goal

pub returns : goal.returns
returns c = record { room = local_room }
