use Rattle.table_vectors.proofs.leases.sweep.Given as goal

abbrev pub ghosts-swept : goal.ghosts-swept
ghosts-swept a = record { name = a.blank.name; parts = a.blank.parts }
