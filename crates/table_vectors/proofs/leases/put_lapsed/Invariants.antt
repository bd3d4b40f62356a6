use Rattle.table_vectors.proofs.leases.put_lapsed.Given as goal

abbrev pub ghosts-lapsed_numbers : goal.ghosts-lapsed_numbers
ghosts-lapsed_numbers a = record { name = a.blank.name; parts = a.blank.parts }
