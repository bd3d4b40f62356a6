-- What a list contains, element by element, and what a filter keeps of it.
use Rattle.std.proofs.Common.{
  ◌≡◌,
  ℕ,
  zero,
  suc,
  ◌<◌,
  Bool,
  true,
  false,
  cond,
  List,
  [],
  ◌∷◌,
  length,
  filter,
  slice_index_or,
  refl,
  ap,
  ◌∙◌,
  subst,
  ◌⊎◌,
  inl,
  inr,
  arith,
}
use Rattle.std.specs.List.{Contains}

pub contains_first : {X : Type 0} (y : X) (ys : List X) → Contains (y ∷ ys) y
contains_first y ys = (0, omega arith, refl)

pub contains_later : {X : Type 0} (y : X) (ys : List X) (x : X)
    → Contains ys x
    → Contains (y ∷ ys) x
contains_later y ys x h = (suc h.0, omega arith, h.2)

pub contains_cases : {X : Type 0} (y : X) (ys : List X) (x : X)
    → Contains (y ∷ ys) x
    → (y ≡ x) ⊎ Contains ys x
contains_cases y ys x h = by h.0 h.1 h.2
  where
    by : (k : ℕ) → k < length (y ∷ ys) → slice_index_or (y ∷ ys) k x ≡ x → (y ≡ x) ⊎ Contains ys x
    by zero within is = inl is
    by (suc k) within is = inr (k, omega arith, is)

pub contains_none : {X : Type 0} (x : X) → Contains [] x → ⊥
contains_none x h = omega arith

pub contains_filter : {X : Type 0} (test : X → Bool) (xs : List X) (x : X)
    → Contains (filter test xs) x
    → Contains xs x × (test x ≡ true)
contains_filter test [] x h = absurd (contains_none x h)
contains_filter {X = X} test (y ∷ ys) x h = by (test y) refl h (contains_filter test ys x)
  where
    more : (Contains ys x × (test x ≡ true)) → Contains (y ∷ ys) x × (test x ≡ true)
    more rest = (contains_later y ys x rest.0, rest.1)

    found : test y ≡ true
        → (y ≡ x) ⊎ Contains (filter test ys) x
        → (Contains (filter test ys) x → Contains ys x × (test x ≡ true))
        → Contains (y ∷ ys) x × (test x ≡ true)
    found t (inl is) rest = (
      subst (λ (z : X). Contains (y ∷ ys) z) is (contains_first y ys),
      subst
          (λ (z : X). test z ≡ true) is t,
    )
    found t (inr there) rest = more (rest there)

    by : (t : Bool)
        → test y ≡ t
        → Contains (cond t (y ∷ filter test ys) (filter test ys)) x
        → (Contains (filter test ys) x → Contains ys x × (test x ≡ true))
        → Contains (y ∷ ys) x × (test x ≡ true)
    by true t there rest = found t (contains_cases y (filter test ys) x there) rest
    by false t there rest = more (rest there)

pub filter_contains : {X : Type 0} (test : X → Bool) (xs : List X) (x : X)
    → Contains xs x
    → test x ≡ true
    → Contains (filter test xs) x
filter_contains test [] x h pass = absurd (contains_none x h)
filter_contains {X = X} test (y ∷ ys) x h pass =
    by (contains_cases y ys x h) (λ there. filter_contains test ys x there pass)
  where
    kept : (t : Bool)
        → Contains (filter test ys) x
        → Contains (cond t (y ∷ filter test ys) (filter test ys)) x
    kept true there = contains_later y (filter test ys) x there
    kept false there = there

    by : (y ≡ x) ⊎ Contains ys x
        → (Contains ys x → Contains (filter test ys) x)
        → Contains (filter test (y ∷ ys)) x
    by (inl is) rest =
        let passes : test y ≡ true = ap test is ∙ pass in
        rw passes (subst (λ (z : X). Contains (y ∷ filter test ys) z) is
        (contains_first y (filter test ys)))
    by (inr there) rest = kept (test y) (rest there)
