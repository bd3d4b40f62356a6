use Rattle.rd_look.proofs.looks.listing_at.Goals as goal

pub returns : goal.returns
returns g c history stands = c.lookup.ensures.listing 0 history stands
