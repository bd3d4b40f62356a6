use Rattle.std.proofs.Common.{
  ◌≡◌,
  ◌-◌,
  List,
  [],
  ◌∷◌,
  ◌++◌,
  length,
  take,
  true,
  refl,
  sym,
  ap,
  subst,
  ◌∙◌,
}
use Rattle.std.proofs.Common.{ℕ}
use Rattle.event_model.specs.Events.{is_young}
use Rattle.event_model.specs.Repeats.{Exchange}
use Rattle.exchange_core.specs.Table.{young, InOrder}
use Rattle.exchange_core.proofs.RowLaws.{young-all, young-popped, oldest_last, InOrder-popped}
use Rattle.exchange_core.proofs.table.drop_old.Goals as goal

-- the exchanges that are left, where the oldest is young
all_left : (now : ℕ) (xs front : List Exchange) (x : Exchange)
    → xs ≡ front ++ x ∷ []
    → InOrder now xs
    → is_young now x.moment ≡ true
    → xs ≡ young now xs
all_left now xs front x whole order y =
    whole
    ∙ (young-all now now front x (subst (InOrder now) whole order) y
    ∙ ap (λ rest. young now rest) (sym whole))

pub returns-then-is_young : goal.returns-then-is_young
returns-then-is_young c =
    let xs = c.oldest.queue in
    let n = length xs in
    let whole =
    oldest_last xs n c.in-Some.oldest.now refl (c.in-Some.ensures.variant.0 refl)
    c.in-Some.ensures.lookup in
    all_left c.args.now.0 xs (take (n - 1) xs) c.in-Some.oldest.now whole c.oldest.invariant.order
    (sym c.is_young.ensures ∙ c.if-is_young.true)
    ∙ c.oldest.invariant.items

pub oldest-preserved : goal.oldest-preserved
oldest-preserved c =
    let xs = c.oldest.queue in
    let n = length xs in
    let x = c.in-Some.oldest.now in
    let front = take (n - 1) xs in
    let whole : xs ≡ front ++ x ∷ [] =
    oldest_last xs n x refl (c.in-Some.ensures.variant.0 refl) c.in-Some.ensures.lookup in
    let left : c.drop_oldest.new.self ≡ front = c.drop_oldest.ensures in
    record {
      items =
          ap (λ xs. young c.args.now.0 xs) left
          ∙ (sym (young-popped c.args.now.0 front x (sym c.is_young.ensures ∙ c.if-is_young.false))
          ∙ (ap (λ xs. young c.args.now.0 xs) (sym whole) ∙ c.oldest.invariant.items));
      order =
          subst (InOrder c.args.now.0) (sym left) (InOrder-popped c.args.now.0 front x
          (subst (InOrder c.args.now.0) whole c.oldest.invariant.order));
    }
