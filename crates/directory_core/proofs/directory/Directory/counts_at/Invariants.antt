use Rattle.directory_core.proofs.directory.Directory.counts_at.Given as goal

abbrev pub ghosts-counts_after : goal.ghosts-counts_after
ghosts-counts_after a = record { name = a.blank.name; parts = a.blank.parts }
