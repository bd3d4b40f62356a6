use Rattle.turn_lock.proofs.SeenLaws.{seen_ordered}
use Rattle.turn_lock.proofs.lock.seen_in_order.Goals as goal

pub returns : goal.returns
returns g c = seen_ordered g.T.Replays.stands g.T.Replays.number g.T.Replays.label
