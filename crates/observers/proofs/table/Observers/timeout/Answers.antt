use Rattle.std.proofs.Common.{slice_get}
use Rattle.observers.specs.AwaitedPeers.{AreAwaited, awaited_of}
use Rattle.std.proofs.Common.{arith}
use Rattle.observers.specs.Standing.{
  marked as marked_at_slot,
  seen as seen_one,
  timed as timed_one,
}
use Rattle.observers.proofs.AwaitedLaws.{at-AreAwaited, timed-LeavesFlights}
use Rattle.std.proofs.Common.{◌∷◌, [], ◌++◌, sym, ap, subst, remove, ◌∙◌}
use Rattle.std.specs.Arc.{arc_value}
use Rattle.std.specs.List.{position}
use Rattle.observers.specs.ObserverEvents.{ObserversStandFor}
use Rattle.observers.specs.Standing.{timed, changed_at}
use Rattle.observers.proofs.WalkLaws.{inside-at}
use Rattle.observers.proofs.StandLaws.{again-StandsFor, due-StandsFor, unsent-same, sends-at}
use Rattle.observers.proofs.table.Observers.timeout.Goals as goal

pub returns-clause-deadline : goal.returns-clause-deadline
returns-clause-deadline c queries octets events transitions o h at =
    let w = inside-at c.args.self.now c.args.index c.requires in
    c.time_at.ensures.due w.0 (ap (λ xs. slice_get xs c.args.index) c.self.view_is ∙ w.1)
    ∙ due-StandsFor queries octets events transitions c.args.now.0 c.args.self.now c.args.index o
    w.0 h at w.1

pub returns-clause-stands : goal.returns-clause-stands
returns-clause-stands c queries octets events transitions e w s sends there flies is when h =
    subst (ObserversStandFor queries octets (e ∷ events) transitions)
    (sym (c.time_at.ensures.kept
    ∙ ap (changed_at (timed c.args.now.0) c.args.index) c.self.view_is))
    (again-StandsFor queries octets events transitions e c.args.now.0 c.args.self.now c.args.index w
    s there flies (sends-at c.args.now.0 w s c.time_at.result flies
    (c.time_at.ensures.due w (ap (λ xs. slice_get xs c.args.index) c.self.view_is ∙ there))
    sends) is when h)

pub returns-clause-unsent : goal.returns-clause-unsent
returns-clause-unsent c other =
    let w = inside-at c.args.self.now c.args.index c.requires in
    c.time_at.ensures.kept
    ∙ (ap (changed_at (timed c.args.now.0) c.args.index) c.self.view_is
    ∙ unsent-same c.args.now.0 c.args.self.now c.args.index w.0 w.1
    (λ sends. other
    (c.time_at.ensures.due w.0 (ap (λ xs. slice_get xs c.args.index) c.self.view_is ∙ w.1)
    ∙ sends)))

pub invariant_of-self : goal.invariant_of-self
invariant_of-self c =
    let few = c.self.invariant.0 in
    let room = c.self.invariant.1 in
    let len = c.time_at.ensures.len in
    let capacity = c.time_at.ensures.capacity in (
      omega (arith, few, len),
      omega (arith, room, capacity),
      c.self.invariant.2,
      subst (λ ws. AreAwaited ws c.self.inside.awaited.items) (sym c.time_at.ensures.kept)
          (at-AreAwaited (timed_one c.args.now.0) (timed-LeavesFlights c.args.now.0) c.args.index
          c.self.inside.items.items c.self.inside.awaited.items c.self.invariant.3),
    )
