use Rattle.std.proofs.Common.{length, slice_get, ◌<◌}
use Rattle.observers.proofs.WalkLaws.{get-slice}
use Rattle.std.proofs.Common.{arith}
use Rattle.observers.specs.AwaitedPeers.{AreAwaited, awaited_of}
use Rattle.observers.proofs.AwaitedLaws.{of-AreAwaited}
use Rattle.std.proofs.Common.{◌∷◌, [], ◌++◌, sym, ap, subst, remove, ◌∙◌}
use Rattle.std.specs.Arc.{arc_value}
use Rattle.std.specs.List.{position}
use Rattle.observers.specs.ObserverEvents.{ObserversStandFor}
use Rattle.observers.proofs.StandLaws.{removed-StandsFor}
use Rattle.observers.proofs.table.Observers.timed_out.Goals as goal

pub returns-clause-stands : goal.returns-clause-stands
returns-clause-stands c queries octets events transitions e is h =
    subst (ObserversStandFor queries octets (e ∷ events) transitions)
    (sym (c.remove-taken.ensures.items ∙ ap (λ ws. remove ws c.args.index) c.self.view_is))
    (removed-StandsFor queries octets events transitions e c.args.self.now c.args.index
    c.remove-taken.result (ap (λ xs. slice_get xs c.args.index) (sym c.self.view_is)
    ∙ get-slice c.self.inside.items.items c.args.index c.remove-taken.result
    (subst (λ ws. c.args.index < length ws) (sym c.self.view_is) c.requires)
    c.remove-taken.ensures.value) is h)

pub invariant_of-self : goal.invariant_of-self
invariant_of-self c =
    let few = c.self.invariant.0 in
    let room = c.self.invariant.1 in
    let len = c.remove-taken.ensures.len in
    let capacity = c.remove-taken.ensures.capacity in
    let more = c.self.invariant.2 in
    let gathered = c.gather.ensures.capacity in (
      omega (arith, few, len),
      omega (arith, room, capacity),
      omega (arith, more, gathered),
      subst (AreAwaited c.remove-taken.new.self.items)
          (sym (c.gather.ensures.peers ∙ ap awaited_of c.as_slice.ensures.value))
          (of-AreAwaited c.remove-taken.new.self.items),
    )

pub returns-clause-value : goal.returns-clause-value
returns-clause-value c =
    ap (λ xs. slice_get xs c.args.index) (sym c.self.view_is)
    ∙ get-slice c.self.inside.items.items c.args.index c.remove-taken.result
    (subst (λ ws. c.args.index < length ws) (sym c.self.view_is) c.requires)
    c.remove-taken.ensures.value
