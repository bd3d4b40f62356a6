use Rattle.observers.proofs.WalkLaws.{absent-after}
use Rattle.std.proofs.Common.{arith}
use Rattle.observers.specs.AwaitedPeers.{AreAwaited, awaited_of}
use Rattle.observers.proofs.AwaitedLaws.{of-AreAwaited}
use Rattle.std.proofs.Common.{◌∷◌, sym, ap, subst, ◌∙◌}
use Rattle.std.specs.List.{position}
use Rattle.observers.specs.ObserverEvents.{ObserversStandFor}
use Rattle.rd_base.specs.Firsts.{without_first}
use Rattle.observers.specs.Standing.{is_named}
use Rattle.observers.proofs.StandLaws.{dropped-StandsFor}
use Rattle.observers.proofs.table.Observers.drop_one.Goals as goal

pub returns-clause-stands : goal.returns-clause-stands
returns-clause-stands c queries octets events transitions e is h =
    subst (ObserversStandFor queries octets (e ∷ events) transitions)
    (sym (c.take-taken.ensures.left (is_named c.args.peer.now c.args.token.now)
    (c.index_of-index.ensures
    ∙ ap (position (is_named c.args.peer.now c.args.token.now))
    c.as_slice.ensures.value)
    ∙ ap (without_first (is_named c.args.peer.now c.args.token.now)) c.self.view_is))
    (dropped-StandsFor queries octets events transitions e c.args.peer.now c.args.token.now
    c.args.self.now is h)

pub invariant_of-self : goal.invariant_of-self
invariant_of-self c =
    let few = c.self.invariant.0 in
    let room = c.self.invariant.1 in
    let len = c.take-taken.ensures.len in
    let capacity = c.take-taken.ensures.capacity in
    let more = c.self.invariant.2 in
    let gathered = c.gather.ensures.capacity in (
      omega (arith, few, len),
      omega (arith, room, capacity),
      omega (arith, more, gathered),
      subst (AreAwaited c.take-taken.new.observers.items)
          (sym (c.gather.ensures.peers ∙ ap awaited_of c.as_slice-2.ensures.value))
          (of-AreAwaited c.take-taken.new.observers.items),
    )

pub returns-clause-absent : goal.returns-clause-absent
returns-clause-absent c =
    absent-after (is_named c.args.peer.now c.args.token.now) c.self.inside.items.items
    c.take-taken.new.observers.items c.take-taken.result
    (c.take-taken.ensures.found (is_named c.args.peer.now c.args.token.now)
    (c.index_of-index.ensures
    ∙ ap (position (is_named c.args.peer.now c.args.token.now)) c.as_slice.ensures.value))
    (c.take-taken.ensures.left (is_named c.args.peer.now c.args.token.now)
    (c.index_of-index.ensures
    ∙ ap (position (is_named c.args.peer.now c.args.token.now)) c.as_slice.ensures.value))
