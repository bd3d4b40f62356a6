use Rattle.observers.specs.AwaitedPeers.{AreAwaited, awaited_of}
use Rattle.observers.proofs.AwaitedLaws.{pushed-AreAwaited}
use Rattle.std.proofs.Common.{◌∷◌, [], ◌++◌, sym, ap, subst, remove, ◌∙◌}
use Rattle.std.specs.Arc.{arc_value}
use Rattle.std.specs.List.{position}
use Rattle.observers.specs.ObserverEvents.{ObserversStandFor}
use Rattle.std.proofs.Common.{arith, length, refl}
use Rattle.std.proofs.lemmas.Bool.{false≢true}
use Rattle.observers.proofs.StandLaws.{added-StandsFor, length-StandsFor}
use Rattle.observers.proofs.table.Observers.add.Goals as goal

pub returns-then-len-eq-MAX_OBSERVERS-clause-full_among :
    goal.returns-then-len-eq-MAX_OBSERVERS-clause-full_among
returns-then-len-eq-MAX_OBSERVERS-clause-full_among c queries octets events transitions h =
    let same = length-StandsFor queries octets events transitions c.args.self.now h in
    let full = c.if-len-eq-MAX_OBSERVERS.true in
    let len = c.len.ensures in
    let shown = ap length c.self.view_is in
    (λ t. omega (arith, same, full, len, shown), λ many. refl)

pub returns-clause-full_among : goal.returns-clause-full_among
returns-clause-full_among c queries octets events transitions h =
    let same = length-StandsFor queries octets events transitions c.args.self.now h in
    let few = c.self.invariant.0 in
    let other = c.if-len-eq-MAX_OBSERVERS.false in
    let len = c.len.ensures in
    let shown = ap length c.self.view_is in
    (λ t. absurd (false≢true t), λ many. absurd (omega (arith, same, few, other, len, shown, many)))

pub returns-clause-stands : goal.returns-clause-stands
returns-clause-stands c queries octets events transitions watched formed is forms calm low h =
    subst (ObserversStandFor queries octets (formed ∷ watched ∷ events) transitions)
    (sym (c.push_reserved.ensures.items ∙ ap (λ ws. ws ++ c.args.observer ∷ []) c.self.view_is))
    (added-StandsFor queries octets events transitions watched formed c.args.self.now
    c.args.observer c.requires.new c.requires.landed calm is forms low h)

pub invariant_of-self : goal.invariant_of-self
invariant_of-self c =
    let few = c.self.invariant.0 in
    let other = c.if-len-eq-MAX_OBSERVERS.false in
    let same = c.len.ensures in
    let len = c.push_reserved.ensures.len in
    let room = c.self.invariant.1 in
    let capacity = c.push_reserved.ensures.capacity in (
      omega (arith, few, other, same, len),
      omega (arith, room, capacity),
      c.self.invariant.2,
      subst (λ ws. AreAwaited ws c.self.inside.awaited.items) (sym c.push_reserved.ensures.items)
          (pushed-AreAwaited c.self.inside.items.items c.self.inside.awaited.items c.args.observer
          c.requires.landed c.self.invariant.3),
    )
