use Rattle.thread_run.proofs.run.run_by_choice.Given as goal

abbrev pub ghosts-run_named : goal.ghosts-run_named
ghosts-run_named g a = record { table = a.t }
