-- What a test chooses, and what a chosen value says of its test.
use Rattle.std.proofs.Common.{
  ◌≡◌,
  Bool,
  true,
  false,
  Option,
  Some,
  None,
  if◌then◌else◌,
  refl,
  ◌⊎◌,
  inl,
  inr,
}
use Rattle.std.proofs.lemmas.Option.{none-some, same_Some}

-- a test that holds chooses the first value
pub chosen_true : {A : Type 0} (b : Bool) (x y : A) → b ≡ true → (if b then x else y) ≡ x
chosen_true true x y e = refl
chosen_true false x y e = cc

-- a test that fails chooses the second
pub chosen_false : {A : Type 0} (b : Bool) (x y : A) → b ≡ false → (if b then x else y) ≡ y
chosen_false false x y e = refl
chosen_false true x y e = cc

-- what was chosen is one of the two values
pub either_of : {A : Type 0} (b : Bool) (x y z : A)
    → (if b then x else y) ≡ z
    → ((b ≡ true) × (x ≡ z)) ⊎ ((b ≡ false) × (y ≡ z))
either_of true x y z e = inl (refl, e)
either_of false x y z e = inr (refl, e)

-- a value that a test let through
pub let_through : {A : Type 0} (b : Bool) (x y : A)
    → (if b then Some x else None) ≡ Some y
    → (b ≡ true) × (x ≡ y)
let_through true x y e = (refl, same_Some x y e)
let_through false x y e = absurd (none-some y e)

-- a value that a test did not refuse
pub not_refused : {A : Type 0} (b : Bool) (x : Option A) (y : A)
    → (if b then None else x) ≡ Some y
    → (b ≡ false) × (x ≡ Some y)
not_refused true x y e = absurd (none-some y e)
not_refused false x y e = (refl, e)
