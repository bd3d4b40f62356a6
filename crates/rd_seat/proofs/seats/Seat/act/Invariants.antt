use Rattle.rd_seat.proofs.seats.Seat.act.Given as goal

abbrev pub ghost-act : goal.ghost-act
ghost-act g a = g.place
