-- What is remembered of a share is no more than what came.
use Rattle.std.proofs.Common.{◌≡◌, ◌≤◌, ℕ, ◌+◌, Bool, true, false, List, ◌∷◌, Option}
use Rattle.std.proofs.Common.{Some, None, Contains, refl, sym, ap, subst, ◌∙◌, inl, inr, arith}
use Rattle.std.proofs.Common.{nat_eq, ◌&&◌, ◌==◌, cond, if◌then◌else◌}
use Rattle.std.proofs.lemmas.List.Sums.{sum_by-cons}
use Rattle.std.specs.Cmp.{nat_eq_equiv}
use Rattle.std.specs.Map.{lookup}
use Rattle.std.proofs.lemmas.Bool.{eqb-true, eq-eqb}
use Rattle.lru.specs.LruCache.{LruCache, put_entries}
use Rattle.lru.proofs.CallerLemmas.{Contains-lookup, Contains-put_entries, lookup-put_entries}
use Rattle.hosting.specs.declared.shares.Tally.{Tally}
use Rattle.hosting.specs.Shares.{Asked, AreWithin, asked_in, counted_in, remembered}

-- what a request adds to how many there are
abbrev weight : ℕ → ℕ → Asked → ℕ
weight window source asked = cond (asked.0 == window && asked.1 == source) 1 0

asked_cons : (window source : ℕ) (x : Asked) (came : List Asked)
    → asked_in window source (x ∷ came) ≡ weight window source x + asked_in window source came
asked_cons window source x came = sum_by-cons (weight window source) x came

-- one more request of a source
pub asked_more : (window source : ℕ) (came : List Asked)
    → asked_in window source ((window, source) ∷ came) ≡ 1 + asked_in window source came
asked_more window source came =
    asked_cons window source (window, source) came
    ∙ ap (λ (n : ℕ). n + asked_in window source came)
    (rw (eq-eqb window window refl, eq-eqb source source refl) refl)

-- any other request takes none away
pub asked_kept : (window source : ℕ) (x : Asked) (came : List Asked)
    → asked_in window source came ≤ asked_in window source (x ∷ came)
asked_kept window source x came =
    let e = asked_cons window source x came in omega (arith, e)

pub within_more : (entries : List (ℕ × Tally)) (came : List Asked) (x : Asked)
    → AreWithin entries came → AreWithin entries (x ∷ came)
within_more entries came x within = record {
  each = λ source tally there.
      let h = within.each source tally there in
      let k = asked_kept tally.window source x came in
      omega (arith, h, k);
}

-- what is remembered came
remembered_by : (window source : ℕ) (entries : List (ℕ × Tally)) (came : List Asked)
    → AreWithin entries came → (o : Option Tally) → lookup (nat_eq source) entries ≡ o
    → counted_in window o ≤ asked_in window source came
remembered_by window source entries came within None e = omega arith
remembered_by window source entries came within (Some tally) e =
    by (tally.window == window) refl
  where
    there : (k : ℕ) × Contains entries (k, tally) × (nat_eq source k ≡ true)
    there = Contains-lookup (nat_eq source) entries tally e

    here : tally.number ≤ asked_in tally.window source came
    here = subst (λ (s : ℕ). tally.number ≤ asked_in tally.window s came)
        (sym (eqb-true source there.0 there.2)) (within.each there.0 tally there.1)

    by : (b : Bool) → tally.window == window ≡ b
        → (if b then tally.number else 0) ≤ asked_in window source came
    by true same =
        subst (λ (w : ℕ). tally.number ≤ asked_in w source came)
        (eqb-true tally.window window same) here
    by false other = omega arith

pub remembered_within : (window source : ℕ) (entries : List (ℕ × Tally)) (came : List Asked)
    → AreWithin entries came
    → remembered window source entries ≤ asked_in window source came
remembered_within window source entries came within =
    remembered_by window source entries came within (lookup (nat_eq source) entries) refl

-- a tally that is put is within, where it is no more than came
pub put_within : (c : LruCache ℕ Tally) (came : List Asked) (x : Asked) (source : ℕ)
    (tally : Tally) → AreWithin c.entries came
    → tally.number ≤ asked_in tally.window source (x ∷ came)
    → AreWithin (put_entries nat_eq c source tally) (x ∷ came)
put_within c came x source tally within fits = record {
  each = λ k t there. elim (Contains-put_entries nat_eq c source tally (k, t) there) [
    | inl before ↦ (within_more c.entries came x within).each k t before
    | inr put ↦ at k t put.0 (elim put.1 [
      | inl same ↦ same
      | inr equal ↦ sym (eqb-true source k equal.2)
    ])
  ];
}
  where
    at : (k : ℕ) (t : Tally) → t ≡ tally → k ≡ source
        → t.number ≤ asked_in t.window k (x ∷ came)
    at k t same here =
        subst (λ (u : Tally). u.number ≤ asked_in u.window k (x ∷ came)) (sym same)
        (subst (λ (j : ℕ). tally.number ≤ asked_in tally.window j (x ∷ came)) (sym here) fits)

-- what is remembered of a source after its tally was put
pub remembered_put : (c : LruCache ℕ Tally) (window source : ℕ) (tally : Tally)
    → tally.window ≡ window
    → remembered window source (put_entries nat_eq c source tally) ≡ tally.number
remembered_put c window source tally same =
    ap (counted_in window) (lookup-put_entries nat_eq c source tally nat_eq_equiv)
    ∙ rw (eq-eqb tally.window window same) refl

-- one more than is remembered came, with the request that comes
pub one_more_came : (window source n : ℕ) (entries : List (ℕ × Tally)) (came : List Asked)
    → AreWithin entries came → n ≡ remembered window source entries
    → n + 1 ≤ asked_in window source ((window, source) ∷ came)
one_more_came window source n entries came within is =
    let few = remembered_within window source entries came within in
    let more = asked_more window source came in
    omega (arith, few, more, is)
