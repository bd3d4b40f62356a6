use Rattle.std.proofs.Common.{length, slice_get}
use Rattle.observers.specs.AwaitedPeers.{AreAwaited, awaited_of}
use Rattle.std.proofs.Common.{arith}
use Rattle.observers.proofs.AwaitedLaws.{formed-room, formed-AreAwaited}
use Rattle.std.proofs.Common.{◌∷◌, [], ◌++◌, sym, ap, subst, remove, ◌∙◌}
use Rattle.std.specs.Arc.{arc_value}
use Rattle.std.specs.List.{position}
use Rattle.observers.specs.ObserverEvents.{ObserversStandFor}
use Rattle.observers.specs.Standing.{notified, changed_at}
use Rattle.observers.proofs.StandLaws.{formed-StandsFor}
use Rattle.observers.proofs.table.Observers.formed.Goals as goal

pub returns-clause-stands : goal.returns-clause-stands
returns-clause-stands c queries octets events transitions e w there is same fresh low h =
    subst (ObserversStandFor queries octets (e ∷ events) transitions)
    (sym (c.notification_at.ensures.notified
    ∙ ap (changed_at (notified c.args.flight (arc_value c.args.body)) c.args.index)
    c.self.view_is))
    (formed-StandsFor queries octets events transitions e c.args.self.now c.args.index w
    c.args.flight (arc_value c.args.body) there (c.requires.free w there) is same fresh low h)

pub await_peer-requires : goal.await_peer-requires
await_peer-requires c =
    let few = c.self.invariant.0 in
    let len = c.as_slice.ensures.len in
    let value = ap length c.as_slice.ensures.value in
    let room =
    formed-room c.self.inside.items.items c.args.self.now c.self.inside.awaited.items
    c.args.index c.self.view_is c.requires.within c.requires.free c.self.invariant.3
    (omega (arith, few, len, value)) in
    let capacity = c.self.invariant.2 in
    omega (arith, room, capacity)

pub invariant_of-self : goal.invariant_of-self
invariant_of-self c =
    let few = c.self.invariant.0 in
    let room = c.self.invariant.1 in
    let len = c.notification_at.ensures.len in
    let capacity = c.notification_at.ensures.capacity in
    let more = c.self.invariant.2 in
    let pushed = c.await_peer.ensures.capacity in (
      omega (arith, few, len),
      omega (arith, room, capacity),
      omega (arith, more, pushed),
      formed-AreAwaited c.args.flight (arc_value c.args.body) c.self.inside.items.items
          c.args.self.now c.notification_at.new.observers.items c.self.inside.awaited.items
          c.await_peer.new.awaited.items c.args.index c.peer_at-peer.result
          c.self.view_is c.requires.within c.requires.free c.self.invariant.3
          c.notification_at.ensures.notified (λ w there.
          c.peer_at-peer.ensures w
          (ap (λ xs. slice_get xs c.args.index) c.as_slice.ensures.value ∙ there))
          c.await_peer.ensures.awaited,
    )
