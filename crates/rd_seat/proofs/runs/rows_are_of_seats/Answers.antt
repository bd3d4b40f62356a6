use Rattle.turn_lock.proofs.HistoryLaws.{history_of_passes}
use Rattle.rd_seat.proofs.runs.rows_are_of_seats.Goals as goal

pub returns : goal.returns
returns c name workers s kept = history_of_passes _ _ _ name workers s kept
