use Rattle.observers.specs.AwaitedPeers.{AreAwaited, awaited_of}
use Rattle.std.proofs.Common.{◌∷◌, map, sym, ap, subst, arith, ◌∙◌}
use Rattle.observers.specs.Standing.{
  marked as marked_at_slot,
  seen as seen_one,
  timed as timed_one,
}
use Rattle.observers.specs.ObserverEvents.{ObserversStandFor}
use Rattle.observers.proofs.MarkLaws.{mark_stands}
use Rattle.observers.proofs.AwaitedLaws.{map-AreAwaited, marked-LeavesFlights}
use Rattle.observers.proofs.table.Observers.mark.Goals as goal

pub invariant_of-self : goal.invariant_of-self
invariant_of-self c =
    let few = c.self.invariant.0 in
    let room = c.self.invariant.1 in
    let len = c.mark_all.ensures.len in
    let capacity = c.mark_all.ensures.capacity in (
      omega (arith, few, len),
      omega (arith, room, capacity),
      c.self.invariant.2,
      subst (λ ws. AreAwaited ws c.self.inside.awaited.items) (sym c.mark_all.ensures.marked)
          (map-AreAwaited (marked_at_slot c.args.slot) (marked-LeavesFlights c.args.slot)
          c.self.inside.items.items c.self.inside.awaited.items c.self.invariant.3),
    )

pub returns-clause-stands : goal.returns-clause-stands
returns-clause-stands c queries octets events t transitions exact looked h =
    subst (ObserversStandFor queries octets events (t ∷ transitions))
    (ap (map (marked_at_slot c.args.slot)) (sym c.self.view_is) ∙ sym c.mark_all.ensures.marked)
    (mark_stands queries octets events t transitions c.args.slot c.args.self.now exact looked h)
