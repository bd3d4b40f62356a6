use Rattle.observers.specs.AwaitedPeers.{AreAwaited, awaited_of}
use Rattle.std.proofs.Common.{arith}
use Rattle.observers.specs.Standing.{
  marked as marked_at_slot,
  seen as seen_one,
  timed as timed_one,
}
use Rattle.observers.proofs.AwaitedLaws.{at-AreAwaited, seen-LeavesFlights}
use Rattle.std.proofs.Common.{◌∷◌, [], ◌++◌, sym, ap, subst, remove, ◌∙◌}
use Rattle.std.specs.Arc.{arc_value}
use Rattle.std.specs.List.{position}
use Rattle.observers.specs.ObserverEvents.{ObserversStandFor}
use Rattle.observers.specs.Standing.{seen, changed_at}
use Rattle.observers.proofs.StandLaws.{unchanged-StandsFor}
use Rattle.observers.proofs.table.Observers.unchanged.Goals as goal

pub returns-clause-stands : goal.returns-clause-stands
returns-clause-stands c queries octets events transitions e w there is low h =
    subst (ObserversStandFor queries octets (e ∷ events) transitions)
    (sym (c.see_at.ensures.seen ∙ ap (changed_at seen c.args.index) c.self.view_is))
    (unchanged-StandsFor queries octets events transitions e c.args.self.now c.args.index w there is
    low h)

pub invariant_of-self : goal.invariant_of-self
invariant_of-self c =
    let few = c.self.invariant.0 in
    let room = c.self.invariant.1 in
    let len = c.see_at.ensures.len in
    let capacity = c.see_at.ensures.capacity in (
      omega (arith, few, len),
      omega (arith, room, capacity),
      c.self.invariant.2,
      subst (λ ws. AreAwaited ws c.self.inside.awaited.items) (sym c.see_at.ensures.seen)
          (at-AreAwaited seen_one seen-LeavesFlights c.args.index c.self.inside.items.items
          c.self.inside.awaited.items c.self.invariant.3),
    )
