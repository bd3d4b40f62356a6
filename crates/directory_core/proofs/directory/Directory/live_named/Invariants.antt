use Rattle.directory_core.proofs.directory.Directory.live_named.Given as goal

abbrev pub ghosts-first_of_name : goal.ghosts-first_of_name
ghosts-first_of_name a = record { name = a.blank.name; parts = a.blank.parts }
