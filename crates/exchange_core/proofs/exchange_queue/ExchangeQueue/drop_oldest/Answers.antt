use Rattle.std.proofs.Common.{
  ◌≡◌,
  ◌<◌,
  ◌-◌,
  List,
  [],
  ◌∷◌,
  ◌++◌,
  length,
  take,
  Option,
  Some,
  None,
  false,
  true,
  refl,
  sym,
  ap,
  subst,
  ◌∙◌,
  length-append,
  arith,
}
use Rattle.std.specs.Option.{IsSome, option_to_list}
use Rattle.event_model.specs.Repeats.{Exchange}
use Rattle.exchange_core.specs.Buckets.{AreFoundBy}
use Rattle.exchange_core.proofs.ChainLaws.{AreFoundBy-same, AreFoundBy-popped}
use Rattle.exchange_core.proofs.exchange_queue.ExchangeQueue.drop_oldest.Goals as goal

-- the list, where its last element was taken off
last_off : (xs ys : List Exchange) (r : Option Exchange)
    → xs ≡ ys ++ option_to_list r
    → IsSome r
    → (y : Exchange) × (xs ≡ ys ++ y ∷ [])
last_off xs ys (Some y) whole there = (y, whole)
last_off xs ys None whole there = absurd (let no : false ≡ true = there in cc)

pub pop-requires : goal.pop-requires
pop-requires c =
    let counted = c.self.invariant.3.counted in
    let some = ap length c.self.view_is in
    let asked = c.requires in
    omega (arith, counted, some, asked)

pub invariant_of-self : goal.invariant_of-self
invariant_of-self c =
    let was = c.self.invariant in
    let room = c.pop_back.ensures.capacity in
    let room_older = c.pop.ensures.room in
    let view = ap length c.self.view_is in
    let asked = c.requires in
    let ok = c.self.inside.rows.ok.0 in
    let ok_now = c.pop_back.new.self.ok.0 in
    let off =
    last_off c.self.inside.rows.items c.pop_back.new.self.items c.pop_back.result
    c.pop_back.ensures.items
    (c.pop_back.ensures.variant.1 (omega (arith, view, asked, ok))) in
    let parts = length-append c.pop_back.new.self.items (off.0 ∷ []) in
    let whole = ap length off.1 in (
      omega (arith, was.0, room),
      omega (arith, was.1, room_older),
      omega (arith, was.2, ok, ok_now, parts, whole),
      AreFoundBy-same c.pop.ensures.first c.pop.ensures.latest c.pop.ensures.older refl
          (AreFoundBy-popped c.self.inside.chains.first c.self.inside.chains.latest.items
          c.self.inside.chains.older.items c.pop_back.new.self.items off.0
          (AreFoundBy-same refl refl refl (sym off.1) was.3)),
    )
