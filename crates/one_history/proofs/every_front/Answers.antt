-- The first message of a lane is the first message of its line there, and what holds of the line says that it meets a row.
use Rattle.one_history.proofs.RowMet.{front_meets}
use Rattle.one_history.proofs.every_front.Goals as goal

pub returns : goal.returns
returns c = record { meets = λ charge trace events past positive ran src dst class m rest front. front_meets charge trace events past src dst class m rest positive ran front }
