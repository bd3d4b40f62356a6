use Rattle.table_vectors.proofs.maps.Maps.pairs.Given as goal

abbrev pub ghosts-pairs_from : goal.ghosts-pairs_from
ghosts-pairs_from g a = record { name = a.blank.name; parts = a.blank.parts }
