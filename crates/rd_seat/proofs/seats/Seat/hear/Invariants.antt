use Rattle.rd_seat.proofs.seats.Seat.hear.Given as goal

abbrev pub ghost-act : goal.ghost-act
ghost-act g a = 0
