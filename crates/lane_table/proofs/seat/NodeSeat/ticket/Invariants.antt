use Rattle.op_model.specs.Shares.{Linked}
use Rattle.op_model.specs.Parts.OwnStep.{own_step}
use Rattle.lane_table.specs.Steps.{ticketed}
use Rattle.lane_table.proofs.Keeping.{Drawn}
use Rattle.lane_table.proofs.seat.NodeSeat.ticket.Given as goal

abbrev pub ghosts-draw_of : goal.ghosts-draw_of
ghosts-draw_of a = record { after = λ p t. ticketed p (own_step Linked p a._event) t a._event; tells = λ p t. Unit {0} × Drawn a.t.now.setup (ticketed p (own_step Linked p a._event) t a._event) }
