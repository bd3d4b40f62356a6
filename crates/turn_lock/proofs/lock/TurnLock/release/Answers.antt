use Rattle.std.proofs.Common.{ℕ, sym, subst, arith}
use mathlib.Core.Option.{none}
use Rattle.atomic_table.specs.Table.{Allows, step}
use Rattle.turn_lock.specs.Rule.{Kept}
use Rattle.turn_lock.specs.Steps.{Gives}
use Rattle.turn_lock.proofs.GiveMoves.{gives_allowed}
use Rattle.turn_lock.proofs.lock.TurnLock.release.Goals as goal

pub swap-requires : goal.swap-requires
swap-requires g c =
    let lock = c.args.self.now in
    let seat = c.args.seat.now in
    let lab = g.T.Replays.label lock.table.shared.key.value.value in
    let passes = lock.table.shared.key.passes in
    let w = c.args.word in
    let ready = c.requires.ready in
    let added = g.S.Added.added in (
      c.requires.lock,
      omega (arith, lock.words),
      subst (λ (n : ℕ).
          Allows (Kept g.T.Replays.stands g.T.Replays.number g.T.Replays.label lab passes) n seat.id
          seat.me 0 (λ _. w)
          (Gives g.T.Replays.stands g.T.Replays.number g.T.Replays.label added
          (step n 0 w 0 none) seat.me))
          (sym lock.slots)
          (gives_allowed g.T.Replays.stands g.T.Replays.number g.T.Replays.label lab passes seat.id
          seat.me ready.0 w ready.2 c.requires.word added ready.1),
    )
