use Rattle.table_vectors.proofs.maps.bound_chunks.Given as goal

abbrev pub ghosts-count_chunks : goal.ghosts-count_chunks
ghosts-count_chunks a = record { name = a.blank.name; parts = a.blank.parts }
