use Rattle.directory_core.proofs.lapsing_iter.LapsingIter.step.Given as goal

abbrev pub ghosts-next_lapsing : goal.ghosts-next_lapsing
ghosts-next_lapsing a = record { name = a.blank.name; parts = a.blank.parts }
