use Rattle.std.proofs.Common.{ℕ, ◌+◌, ◌==◌, sym, subst, arith}
use prog.Atomic.{either}
use mathlib.Core.Option.{none}
use Rattle.atomic_table.specs.Table.{Allows, step}
use Rattle.turn_lock.specs.Rule.{Kept}
use Rattle.turn_lock.specs.Steps.{Takes}
use Rattle.turn_lock.proofs.TakeMoves.{takes_allowed}
use Rattle.turn_lock.proofs.lock.TurnLock.try_take.Goals as goal

pub compare_exchange-requires : goal.compare_exchange-requires
compare_exchange-requires g c =
    let lock = c.args.self.now in
    let seat = c.args.seat.now in
    let lab = g.T.Replays.label lock.table.shared.key.value.value in
    let passes = lock.table.shared.key.passes in
    let w = c.args.word in (
      c.requires.lock,
      omega (arith, lock.words),
      subst (λ (n : ℕ).
          Allows (Kept g.T.Replays.stands g.T.Replays.number g.T.Replays.label lab passes) n seat.id
          seat.me 0 (λ x. either (x == w) (w + 1) x)
          (Takes g.T.Replays.stands g.T.Replays.number g.T.Replays.label
          (step n 0 w (w + 1) none) seat.me))
          (sym lock.slots)
          (takes_allowed g.T.Replays.stands g.T.Replays.number g.T.Replays.label lab passes seat.id
          seat.me w c.requires.free c.requires.bare),
    )
