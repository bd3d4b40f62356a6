use Rattle.rd_seat.proofs.RunLaws as laws
use Rattle.rd_seat.proofs.runs.seats_are_seats.Goals as goal

pub returns : goal.returns
returns c = laws.seats_are_seats
