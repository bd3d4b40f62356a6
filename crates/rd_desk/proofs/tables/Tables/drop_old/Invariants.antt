use Rattle.rd_desk.proofs.tables.Tables.drop_old.Given as goal

abbrev pub ghosts-swept : goal.ghosts-swept
ghosts-swept a = record { name = a.blank.name; parts = a.blank.parts }
