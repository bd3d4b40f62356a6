use Rattle.std.proofs.Common.{find}
use Rattle.std.proofs.Common.{arith}
use Rattle.observers.specs.AwaitedPeers.{AreAwaited, awaited_of}
use Rattle.observers.proofs.AwaitedLaws.{of-AreAwaited}
use Rattle.std.proofs.Common.{◌∷◌, sym, ap, subst, ◌∙◌}
use Rattle.std.specs.List.{position}
use Rattle.observers.specs.ObserverEvents.{ObserversStandFor}
use Rattle.rd_base.specs.Firsts.{without_first}
use Rattle.observers.specs.Standing.{has_notification}
use Rattle.observers.proofs.StandLaws.{reset-StandsFor}
use Rattle.observers.proofs.table.Observers.reset.Goals as goal

pub returns-clause-stands : goal.returns-clause-stands
returns-clause-stands c queries octets events transitions e w got is h =
    subst (ObserversStandFor queries octets (e ∷ events) transitions)
    (sym (c.take-taken.ensures.left (has_notification c.args.peer.now c.args.mid)
    (c.index_of_notification-index.ensures
    ∙ ap (position (has_notification c.args.peer.now c.args.mid)) c.as_slice.ensures.value)
    ∙ ap (without_first (has_notification c.args.peer.now c.args.mid)) c.self.view_is))
    (reset-StandsFor queries octets events transitions e c.args.peer.now c.args.mid c.args.self.now
    w (ap (find (has_notification c.args.peer.now c.args.mid)) (sym c.self.view_is)
    ∙ (sym (c.take-taken.ensures.found (has_notification c.args.peer.now c.args.mid)
    (c.index_of_notification-index.ensures
    ∙ ap (position (has_notification c.args.peer.now c.args.mid))
    c.as_slice.ensures.value))
    ∙ got)) is h)

pub invariant_of-self : goal.invariant_of-self
invariant_of-self c =
    let few = c.self.invariant.0 in
    let room = c.self.invariant.1 in
    let len = c.take-taken.ensures.len in
    let capacity = c.take-taken.ensures.capacity in
    let more = c.self.invariant.2 in
    let gathered = c.gather.ensures.capacity in (
      omega (arith, few, len),
      omega (arith, room, capacity),
      omega (arith, more, gathered),
      subst (AreAwaited c.take-taken.new.observers.items)
          (sym (c.gather.ensures.peers ∙ ap awaited_of c.as_slice-2.ensures.value))
          (of-AreAwaited c.take-taken.new.observers.items),
    )
