use Rattle.seat_rows.proofs.boxes.plays.Given as goal

abbrev pub ghosts-played : goal.ghosts-played
ghosts-played g a = record { table = a.t.now }
