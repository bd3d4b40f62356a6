-- The elements of a list.
use Rattle.std.proofs.Common.{
  ◌≡◌,
  ◌⊎◌,
  inl,
  inr,
  ◌||◌,
  Bool,
  true,
  false,
  cond,
  List,
  [],
  ◌∷◌,
  ◌++◌,
  filter,
  find,
  Some,
  None,
  refl,
  sym,
  ap,
  subst,
}
use Rattle.std.specs.List.{list_any, AllByRecursion, IsAmong}
use Rattle.std.proofs.lemmas.List.Elements.{All-from_recursion}

-- it is one of these
abbrev pub Among : {X : Type 0} → X → List X → Type 0
Among x [] = ⊥
Among x (y ∷ ys) = (y ≡ x) ⊎ Among x ys

-- what holds of each holds of it
pub all_among : {X : Type 0} (P : X → Type 0) (x : X) (xs : List X)
    → AllByRecursion P xs
    → Among x xs
    → P x
all_among P x [] all nothing = absurd nothing
all_among P x (y ∷ ys) all (inl same) = subst P same all.0
all_among P x (y ∷ ys) all (inr further) = all_among P x ys all.1 further

-- what holds of each element of a list holds of each that is given so
pub among_all : {X : Type 0} (P : X → Type 0) (xs : List X)
    → ((x : X) → Among x xs → P x)
    → AllByRecursion P xs
among_all P [] h = tt
among_all P (x ∷ xs) h = (h x (inl refl), among_all P xs (λ y further. h y (inr further)))

-- one of them passes a test
pub any_among : {X : Type 0} (test : X → Bool) (x : X) (xs : List X)
    → Among x xs
    → test x ≡ true
    → list_any test xs ≡ true
any_among test x [] nothing good = absurd nothing
any_among test x (y ∷ ys) (inl same) good = rw (subst (λ z. test z ≡ true) (sym same) good) refl
any_among test x (y ∷ ys) (inr further) good = by (test y) (any_among test x ys further good)
  where
    by : (b : Bool) → list_any test ys ≡ true → (b || list_any test ys) ≡ true
    by true h = refl
    by false h = h

-- in lists one after the other
pub among_front : {X : Type 0} (x : X) (xs ys : List X) → Among x xs → Among x (xs ++ ys)
among_front x [] ys nothing = absurd nothing
among_front x (y ∷ xs) ys (inl same) = inl same
among_front x (y ∷ xs) ys (inr further) = inr (among_front x xs ys further)

-- among those that pass a test
pub among_filter : {X : Type 0} (test : X → Bool) (x : X) (xs : List X)
    → Among x xs
    → test x ≡ true
    → Among x (filter test xs)
among_filter test x [] nothing good = absurd nothing
among_filter test x (y ∷ ys) (inl same) good =
    subst (λ z. Among x (cond (test z) (z ∷ filter test ys) (filter test ys))) (sym same)
    (rw good (inl refl))
among_filter test x (y ∷ ys) (inr further) good = by (test y) (among_filter test x ys further good)
  where
    by : (b : Bool)
        → Among x (filter test ys)
        → Among x (cond b (y ∷ filter test ys) (filter test ys))
    by true h = inr h
    by false h = h

-- the first that passes a test, where only one does
pub find_only : {X : Type 0} (test : X → Bool) (x : X) (xs : List X)
    → Among x xs
    → test x ≡ true
    → AllByRecursion (λ y. test y ≡ true → y ≡ x) xs
    → find test xs ≡ Some x
find_only test x [] nothing good only = absurd nothing
find_only test x (y ∷ ys) (inl same) good only =
    rw (subst (λ z. test z ≡ true) (sym same) good) (ap (λ z. Some z) same)
find_only test x (y ∷ ys) (inr further) good only =
    by (test y) refl (find_only test x ys further good only.1)
  where
    by : (b : Bool) → test y ≡ b → find test ys ≡ Some x → cond b (Some y) (find test ys) ≡ Some x
    by true it h = ap (λ z. Some z) (only.0 it)
    by false it h = h

-- the first that passes a test: it passes, and what holds of each holds of it
pub find_passes : {X : Type 0} (P : X → Type 0) (test : X → Bool) (xs : List X) (x : X)
    → AllByRecursion P xs
    → find test xs ≡ Some x
    → P x × (test x ≡ true)
find_passes P test [] x all found = absurd (let no : None ≡ Some x = found in cc)
find_passes P test (y ∷ xs) x all found =
    by (test y) refl found (λ h. find_passes P test xs x all.1 h)
  where
    by : (b : Bool)
        → test y ≡ b
        → cond b (Some y) (find test xs) ≡ Some x
        → (find test xs ≡ Some x → P x × (test x ≡ true))
        → P x × (test x ≡ true)
    by true good h more =
        let same : y ≡ x = cc in subst (λ z. P z × (test z ≡ true)) same (all.0, good)
    by false bad h more = more h

-- what holds of each holds of one at an index
pub all_at_index : {X : Type 0} (P : X → Type 0) (xs : List X) (x : X)
    → IsAmong xs x
    → AllByRecursion P xs
    → P x
all_at_index P xs x among all =
    subst P (sym (among.1.1)) (All-from_recursion P xs all among.0 x among.1.0)
