-- Laws of the kept answers of a table.
use Rattle.std.proofs.Common.{
  ◌≡◌,
  ℕ,
  ◌≤◌,
  zero,
  suc,
  true,
  false,
  List,
  [],
  ◌∷◌,
  length,
  take,
  Option,
  Some,
  None,
  is_some,
  refl,
  sym,
  arith,
}
use Rattle.std.proofs.lemmas.Bool.{false≢true}
use Rattle.event_model.specs.KeptAnswers.{KeptAnswer}
use Rattle.transfers.specs.Keeping.{NamedAnswer, used, kept_at, kept_each}

-- what is taken is no longer than was asked for
pub length-take_le : {A : Type 0} (n : ℕ) (xs : List A) → length (take n xs) ≤ n
length-take_le zero xs = omega arith
length-take_le (suc n) [] = omega arith
length-take_le (suc n) (x ∷ xs) = let h = length-take_le n xs in omega (arith, h)

-- whether there is one
pub is_none : {A : Type 0} (o : Option A) → false ≡ is_some o → o ≡ None
is_none None h = refl
is_none (Some x) h = absurd (false≢true h)

pub is_present : {A : Type 0} (o : Option A) → true ≡ is_some o → (x : A) × (o ≡ Some x)
is_present None h = absurd (false≢true (sym h))
is_present (Some x) h = (x, refl)

-- answers that are kept one after the other
pub kept_each-next : (now : ℕ) (a : NamedAnswer) (more : List NamedAnswer) (xs : List KeptAnswer)
    → kept_each now (a ∷ more) xs ≡ kept_each now more (used (kept_at now a) xs)
unfolding kept_each
kept_each-next now a more xs = refl

pub none_left : (now : ℕ) (more : List NamedAnswer) (xs : List KeptAnswer)
    → length more ≡ 0
    → xs ≡ kept_each now more xs
unfolding kept_each
none_left now [] xs none = refl
none_left now (a ∷ more) xs none = absurd (omega (arith, none))
