use Rattle.commands.proofs.journaled.complete_all.Given as goal

abbrev pub ghosts-complete : goal.ghosts-complete
ghosts-complete g a = record { name = a.blank.name; parts = a.blank.parts }
