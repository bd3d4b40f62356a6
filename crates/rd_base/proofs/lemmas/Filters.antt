-- What filters keep of lists, and of lists that change.
use Rattle.std.proofs.Common.{
  ◌≡◌,
  ℕ,
  ◌≤◌,
  ◌+◌,
  Bool,
  true,
  false,
  cond,
  List,
  [],
  ◌∷◌,
  ◌||◌,
  length,
  map,
  filter,
  find,
  sum_by,
  Some,
  refl,
  sym,
  ap,
  ◌∙◌,
  arith,
}
use Rattle.std.specs.List.{list_any, AllByRecursion}
use Rattle.std.proofs.lemmas.List.Sums.{sum_by-cons}
use Rattle.std.proofs.lemmas.Bool.{false≢true}

-- a filter that keeps each element
pub filter_all : {X : Type 0} (test : X → Bool) (xs : List X)
    → AllByRecursion (λ x. test x ≡ true) xs
    → filter test xs ≡ xs
filter_all test [] h = refl
filter_all test (x ∷ xs) h = rw (h.0) (ap (λ rest. x ∷ rest) (filter_all test xs h.1))

-- a filter after one that keeps more
pub filter_stronger : {X : Type 0} (test other : X → Bool)
    → ((x : X) → test x ≡ true → other x ≡ true)
    → (xs : List X)
    → filter test (filter other xs) ≡ filter test xs
filter_stronger test other stronger [] = refl
filter_stronger test other stronger (x ∷ xs) =
    by (other x) (test x) refl refl (filter_stronger test other stronger xs)
  where
    by : (o t : Bool)
        → other x ≡ o
        → test x ≡ t
        → filter test (filter other xs) ≡ filter test xs
        → filter test (cond o (x ∷ filter other xs) (filter other xs))
        ≡ cond t (x ∷ filter test xs) (filter test xs)
    by true true o t more = rw t (ap (λ rest. x ∷ rest) more)
    by true false o t more = rw t more
    by false true o t more = absurd (let kept = stronger x t in cc)
    by false false o t more = more

-- where a change leaves alone what the filter drops, it may be dropped first
pub filter_changed : {X : Type 0} (test : X → Bool) (f : X → X) (xs : List X)
    → AllByRecursion (λ x. test x ≡ false → f x ≡ x) xs
    → filter test (map f xs) ≡ filter test (map f (filter test xs))
filter_changed test f [] h = refl
filter_changed test f (x ∷ xs) h = by (test x) refl (filter_changed test f xs h.1)
  where
    by : (t : Bool)
        → test x ≡ t
        → filter test (map f xs) ≡ filter test (map f (filter test xs))
        → filter test (map f (x ∷ xs))
        ≡ filter test (map f (cond t (x ∷ filter test xs) (filter test xs)))
    by true t more = ap (λ rest. cond (test (f x)) (f x ∷ rest) rest) more
    by false t more = let same = h.0 t in rw (same, t) more

-- two filters in the other order
pub filter_swapped : {X : Type 0} (test other : X → Bool) (xs : List X)
    → filter test (filter other xs) ≡ filter other (filter test xs)
filter_swapped test other [] = refl
filter_swapped test other (x ∷ xs) = by (test x) (other x) refl refl (filter_swapped test other xs)
  where
    by : (t o : Bool)
        → test x ≡ t
        → other x ≡ o
        → filter test (filter other xs) ≡ filter other (filter test xs)
        → filter test (cond o (x ∷ filter other xs) (filter other xs))
        ≡ filter other (cond t (x ∷ filter test xs) (filter test xs))
    by true true t o more = rw (t, o) (ap (λ rest. x ∷ rest) more)
    by true false t o more = rw o more
    by false true t o more = rw t more
    by false false t o more = more

pub length-filter-le : {X : Type 0} (test : X → Bool) (xs : List X)
    → length (filter test xs) ≤ length xs
length-filter-le test [] = omega arith
length-filter-le test (x ∷ xs) = by (test x) (length-filter-le test xs)
  where
    by : (t : Bool)
        → length (filter test xs) ≤ length xs
        → length (cond t (x ∷ filter test xs) (filter test xs)) ≤ length (x ∷ xs)
    by true more = omega arith
    by false more = omega arith

-- a filter that keeps as many keeps all
pub filter_full : {X : Type 0} (test : X → Bool) (xs : List X)
    → length (filter test xs) ≡ length xs
    → filter test xs ≡ xs
filter_full test [] e = refl
filter_full test (x ∷ xs) e = by (test x) e (filter_full test xs) (length-filter-le test xs)
  where
    by : (t : Bool)
        → length (cond t (x ∷ filter test xs) (filter test xs)) ≡ length (x ∷ xs)
        → (length (filter test xs) ≡ length xs → filter test xs ≡ xs)
        → length (filter test xs) ≤ length xs
        → cond t (x ∷ filter test xs) (filter test xs) ≡ x ∷ xs
    by true same more fewer =
        let one : length (filter test xs) ≡ length xs = omega arith in
        ap (λ rest. x ∷ rest) (more one)
    by false same more fewer = absurd (omega arith)

pub sum_by-filter-le : {X : Type 0} (f : X → ℕ) (test : X → Bool) (xs : List X)
    → sum_by f (filter test xs) ≤ sum_by f xs
sum_by-filter-le f test [] = omega arith
sum_by-filter-le f test (x ∷ xs) = by (test x) (sum_by-filter-le f test xs) (sum_by-cons f x xs)
  where
    by : (t : Bool)
        → sum_by f (filter test xs) ≤ sum_by f xs
        → sum_by f (x ∷ xs) ≡ f x + sum_by f xs
        → sum_by f (cond t (x ∷ filter test xs) (filter test xs)) ≤ sum_by f (x ∷ xs)
    by true more all = let kept = sum_by-cons f x (filter test xs) in omega (arith, more, all, kept)
    by false more all = omega (arith, more, all)

-- what is looked for is found after a filter that keeps it
pub find-filter : {X : Type 0} (wanted test : X → Bool)
    → ((x : X) → wanted x ≡ true → test x ≡ true)
    → (xs : List X)
    → find wanted (filter test xs) ≡ find wanted xs
find-filter wanted test kept [] = refl
find-filter wanted test kept (x ∷ xs) =
    by (test x) (wanted x) refl refl (find-filter wanted test kept xs)
  where
    by : (t w : Bool)
        → test x ≡ t
        → wanted x ≡ w
        → find wanted (filter test xs) ≡ find wanted xs
        → find wanted (cond t (x ∷ filter test xs) (filter test xs))
        ≡ cond w (Some x) (find wanted xs)
    by true true t w more = rw w refl
    by true false t w more = rw w more
    by false true t w more = absurd (let there = kept x w in cc)
    by false false t w more = more

-- a filter that keeps none
pub filter_none : {X : Type 0} (test : X → Bool) (xs : List X)
    → AllByRecursion (λ x. test x ≡ false) xs
    → filter test xs ≡ []
filter_none test [] h = refl
filter_none test (x ∷ xs) h = rw (h.0) (filter_none test xs h.1)

-- what a test finds is found after a filter that keeps it
pub any_kept : {X : Type 0} (test keep : X → Bool)
    → ((x : X) → test x ≡ true → keep x ≡ true)
    → (xs : List X)
    → list_any test (filter keep xs) ≡ list_any test xs
any_kept test keep kept_too [] = refl
any_kept {X} test keep kept_too (x ∷ xs) =
    by (test x) (keep x) refl refl (any_kept test keep kept_too xs)
  where
    by : (t k : Bool)
        → test x ≡ t
        → keep x ≡ k
        → list_any test (filter keep xs) ≡ list_any test xs
        → list_any test (cond k (x ∷ filter keep xs) (filter keep xs)) ≡ (t || list_any test xs)
    by true true t k more = rw t refl
    by true false t k more = absurd (false≢true (sym k ∙ kept_too x t))
    by false true t k more = rw t more
    by false false t k more = more
