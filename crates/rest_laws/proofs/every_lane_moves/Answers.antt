-- The message at the front of a lane meets a row, and a line can be called in where one is asked for.
use Rattle.rest_laws.proofs.Enabled.{enabled_take}
use Rattle.rest_laws.proofs.every_lane_moves.Goals as goal

pub returns : goal.returns
returns c = record { enabled = λ charge trace events past positive runs src dst class links some. enabled_take charge trace events past src dst class positive links runs some }
