use Rattle.rd_look.proofs.looks.links_at.Given as goal

abbrev pub ghosts-listing_at : goal.ghosts-listing_at
ghosts-listing_at a = record { name = a.blank.name; parts = a.blank.parts }
