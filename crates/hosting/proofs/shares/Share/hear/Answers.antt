use Rattle.std.proofs.Common.{◌≡◌, ◌+◌, ℕ, List, refl, sym, ap, subst, ◌∙◌, rules, arith}
use Rattle.std.proofs.Common.{nat_eq}
use Rattle.lru.specs.LruCache.{LruCache, put_entries}
use Rattle.hosting.specs.declared.shares.Tally.{Tally}
use Rattle.hosting.specs.Shares.{Asked, AreWithin, remembered}
use Rattle.hosting.proofs.ShareLaws.{one_more_came, put_within, remembered_put, remembered_within}
use Rattle.hosting.proofs.ShareLaws.{within_more}
use Rattle.hosting.proofs.shares.Share.hear.Goals as goal

pub invariant_of-self : goal.invariant_of-self
invariant_of-self c = record {
  within =
      subst (λ (came : List Asked). AreWithin c.args.self.now.tallies.entries came)
      (sym c.add.ensures) (within_more _ _ _ c.args.self.now.within);
}

pub invariant_of-self-then-self-number : goal.invariant_of-self-then-self-number
invariant_of-self-then-self-number c = record {
  within =
      subst (λ (came : List Asked). AreWithin c.args.self.now.tallies.entries came)
      (sym c.add.ensures) (within_more _ _ _ c.args.self.now.within);
}

pub returns-then-self-number-clause-below : goal.returns-then-self-number-clause-below
returns-then-self-number-clause-below c = λ few _.
    let window = c.args.told.now.window in
    let number : c.counted_in-number.result
    ≡ remembered window c.args.source c.args.self.now.tallies.entries = search rules in
    let came = remembered_within window c.args.source c.args.self.now.tallies.entries
    c.args.self.now.came c.args.self.now.within in
    omega (arith, few, number, came)

pub invariant_of-self-in-Err : goal.invariant_of-self-in-Err
invariant_of-self-in-Err c = record {
  within =
      subst (λ (k : LruCache ℕ Tally). AreWithin k.entries c.add.new.self)
      (sym c.in-Err.ensures.kept)
      (subst (λ (came : List Asked). AreWithin c.args.self.now.tallies.entries came)
      (sym c.add.ensures) (within_more _ _ _ c.args.self.now.within));
}

pub invariant_of-self-2 : goal.invariant_of-self-2
invariant_of-self-2 c =
    let window = c.args.told.now.window in
    let source = c.args.source in
    let n = c.counted_in-number.result in
    let tally : Tally = record { window = window; number = n + 1 } in
    let number : n ≡ remembered window source c.args.self.now.tallies.entries = search rules in
    let fits = one_more_came window source n c.args.self.now.tallies.entries
    c.args.self.now.came c.args.self.now.within number in
    record {
      within =
          subst (λ (k : LruCache ℕ Tally). AreWithin k.entries c.add.new.self)
          (sym c.in_default.ensures.put)
          (subst (λ (came : List Asked).
          AreWithin (put_entries nat_eq c.args.self.now.tallies source tally) came)
          (sym c.add.ensures)
          (put_within c.args.self.now.tallies c.args.self.now.came (window, source) source tally
          c.args.self.now.within fits));
    }

pub returns-clause-heard : goal.returns-clause-heard
returns-clause-heard c =
    let window = c.args.told.now.window in
    let source = c.args.source in
    let n = c.counted_in-number.result in
    let tally : Tally = record { window = window; number = n + 1 } in
    let number : n ≡ remembered window source c.args.self.now.tallies.entries = search rules in
    let put : remembered window source c.put_tally.new.tallies.entries ≡ n + 1 =
    ap (λ (k : LruCache ℕ Tally). remembered window source k.entries)
    c.in_default.ensures.put
    ∙ remembered_put c.args.self.now.tallies window source tally refl in
    (search rules, (omega (arith, number), put ∙ ap (λ (m : ℕ). m + 1) number))
