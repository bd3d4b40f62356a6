use Rattle.turn_lock.proofs.HistoryLaws.{history_of_passes}
use Rattle.turn_lock.proofs.lock.history_is_of_passes.Goals as goal

pub returns : goal.returns
returns g c = history_of_passes g.T.Replays.stands g.T.Replays.number g.T.Replays.label
