use Rattle.std.proofs.Common.{arith}
use Rattle.turn_lock.proofs.SplitMoves.{splits}
use Rattle.turn_lock.proofs.lock.TurnLock.next.Goals as goal

pub split_seat-requires : goal.split_seat-requires
split_seat-requires g c = (
  c.requires.lock,
  omega (arith, c.args.self.now.words),
  splits g.T.Replays.stands g.T.Replays.number g.T.Replays.label
      (g.T.Replays.label c.args.self.now.table.shared.key.value.value)
      c.args.self.now.table.shared.key.passes c.args.last.now.id c.args.last.now.me.0
      c.requires.last c.requires.idle c.requires.room,
)
