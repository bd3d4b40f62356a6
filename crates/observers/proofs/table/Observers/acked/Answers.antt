use Rattle.std.proofs.Common.{arith}
use Rattle.observers.specs.AwaitedPeers.{AreAwaited, awaited_of}
use Rattle.observers.proofs.AwaitedLaws.{of-AreAwaited}
use Rattle.std.proofs.Common.{◌∷◌, sym, ap, subst, ◌∙◌}
use Rattle.observers.specs.ObserverEvents.{ObserversStandFor}
use Rattle.rd_base.specs.Firsts.{changed_first}
use Rattle.observers.specs.Standing.{has_notification, landed}
use Rattle.observers.proofs.StandLaws.{landed-StandsFor}
use Rattle.observers.proofs.table.Observers.acked.Goals as goal

pub returns-clause-stands : goal.returns-clause-stands
returns-clause-stands c queries octets events transitions e is h =
    subst (ObserversStandFor queries octets (e ∷ events) transitions)
    (sym (c.land_first-found.ensures.landed
    ∙ ap (changed_first (has_notification c.args.peer.now c.args.mid) landed) c.self.view_is))
    (landed-StandsFor queries octets events transitions e c.args.peer.now c.args.mid c.args.self.now
    is h)

pub invariant_of-self : goal.invariant_of-self
invariant_of-self c =
    let few = c.self.invariant.0 in
    let room = c.self.invariant.1 in
    let len = c.land_first-found.ensures.len in
    let capacity = c.land_first-found.ensures.capacity in
    let more = c.self.invariant.2 in
    let gathered = c.gather.ensures.capacity in (
      omega (arith, few, len),
      omega (arith, room, capacity),
      omega (arith, more, gathered),
      subst (AreAwaited c.land_first-found.new.observers.items)
          (sym (c.gather.ensures.peers ∙ ap awaited_of c.as_slice.ensures.value))
          (of-AreAwaited c.land_first-found.new.observers.items),
    )
