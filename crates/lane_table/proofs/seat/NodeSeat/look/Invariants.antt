use Rattle.lane_table.specs.Steps.{looked_in}
use Rattle.lane_table.specs.Told.{IsHeader, Fronts}
use Rattle.lane_table.proofs.seat.NodeSeat.look.Given as goal

abbrev pub ghosts-load_of : goal.ghosts-load_of
ghosts-load_of a = record { after = λ p n. looked_in p a._peer a._class n; tells = λ p n. IsHeader a.t.now.setup.sizes n × Fronts a.t.now.setup (looked_in p a._peer a._class n) a._peer a._class }
