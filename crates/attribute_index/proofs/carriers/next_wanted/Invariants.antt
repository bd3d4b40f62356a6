use Rattle.attribute_index.proofs.carriers.next_wanted.Given as goal

abbrev pub ghosts-next_row : goal.ghosts-next_row
ghosts-next_row a = record { name = a.blank.name; parts = a.blank.parts }
