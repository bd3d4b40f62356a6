-- What is found in a list, and in what a filter keeps of it.
use Rattle.std.proofs.Common.{
  ◌≡◌,
  Bool,
  true,
  false,
  ◌||◌,
  cond,
  List,
  [],
  ◌∷◌,
  filter,
  find,
  Some,
  None,
  refl,
  sym,
  ap,
  subst,
  ◌∙◌,
}
use Rattle.std.specs.List.{list_any, AllByRecursion}
use Rattle.std.proofs.lemmas.Bool.{false≢true}
use Rattle.rd_base.proofs.lemmas.Each.{each_one}
use Rattle.rd_base.proofs.lemmas.Filters.{filter_all}
use Rattle.rd_base.proofs.lemmas.Pairs.{PairsByRecursion}

-- a filter that keeps all
pub filter_true : {X : Type 0} (xs : List X) → filter (λ x. true) xs ≡ xs
filter_true xs = filter_all (λ x. true) xs (each_one (λ x. true ≡ true) (λ x. refl) xs)

-- what is found passes, and what holds of each holds of it
pub found_passes : {X : Type 0} (test : X → Bool) (xs : List X) (a : X)
    → find test xs ≡ Some a
    → test a ≡ true
found_passes test [] a there = absurd cc
found_passes {X} test (x ∷ xs) a there = by (test x) refl there (found_passes test xs a)
  where
    by : (b : Bool)
        → test x ≡ b
        → cond b (Some x) (find test xs) ≡ Some a
        → (find test xs ≡ Some a → test a ≡ true)
        → test a ≡ true
    by true e h more = let same : x ≡ a = cc in ap test (sym same) ∙ e
    by false e h more = more h

pub found_holds : {X : Type 0} (P : X → Type 0) (test : X → Bool) (xs : List X) (a : X)
    → AllByRecursion P xs
    → find test xs ≡ Some a
    → P a
found_holds P test [] a known there = absurd cc
found_holds {X} P test (x ∷ xs) a known there = by (test x) there (found_holds P test xs a known.1)
  where
    by : (b : Bool) → cond b (Some x) (find test xs) ≡ Some a → (find test xs ≡ Some a → P a) → P a
    by true h more = let same : x ≡ a = cc in subst P same known.0
    by false h more = more h

-- where nothing is found, none passes, and the other way round
pub none_passes : {X : Type 0} (test : X → Bool) (xs : List X)
    → find test xs ≡ None
    → AllByRecursion (λ x. test x ≡ false) xs
none_passes test [] none = tt
none_passes {X} test (x ∷ xs) none = by (test x) refl none (none_passes test xs)
  where
    by : (b : Bool)
        → test x ≡ b
        → cond b (Some x) (find test xs) ≡ None
        → (find test xs ≡ None → AllByRecursion (λ (y : X). test y ≡ false) xs)
        → (test x ≡ false) × AllByRecursion (λ (y : X). test y ≡ false) xs
    by true e h more = absurd cc
    by false e h more = (e, more h)

pub nothing_found : {X : Type 0} (test : X → Bool) (xs : List X)
    → AllByRecursion (λ x. test x ≡ false) xs
    → find test xs ≡ None
nothing_found test [] none = refl
nothing_found test (x ∷ xs) none = let first = none.0 in rw first (nothing_found test xs none.1)

-- what holds of what passes a filter
pub each_filtered : {X : Type 0} (P : X → Type 0) (keep : X → Bool) (xs : List X)
    → AllByRecursion P (filter keep xs)
    → AllByRecursion (λ x. keep x ≡ true → P x) xs
each_filtered P keep [] h = tt
each_filtered {X} P keep (x ∷ xs) h = by (keep x) refl h (each_filtered P keep xs)
  where
    by : (b : Bool)
        → keep x ≡ b
        → AllByRecursion P (cond b (x ∷ filter keep xs) (filter keep xs))
        → (AllByRecursion P (filter keep xs) → AllByRecursion (λ (y : X). keep y ≡ true → P y) xs)
        → (keep x ≡ true → P x) × AllByRecursion (λ (y : X). keep y ≡ true → P y) xs
    by true e k more = (λ yes. k.0, more k.1)
    by false e k more = (λ yes. absurd (false≢true (sym e ∙ yes)), more k)

-- nothing is found in what a filter keeps where nothing was found before it
pub none_filtered : {X : Type 0} (test keep : X → Bool) (xs : List X)
    → find test xs ≡ None
    → find test (filter keep xs) ≡ None
none_filtered test keep [] none = refl
none_filtered {X} test keep (x ∷ xs) none =
    by (keep x) (test x) refl none (none_filtered test keep xs)
  where
    by : (k t : Bool)
        → test x ≡ t
        → cond t (Some x) (find test xs) ≡ None
        → (find test xs ≡ None → find test (filter keep xs) ≡ None)
        → find test (cond k (x ∷ filter keep xs) (filter keep xs)) ≡ None
    by k true t h more = absurd cc
    by true false t h more = rw t (more h)
    by false false t h more = more h

-- what is found before a filter and kept by it is found in what it keeps
pub found_filtered : {X : Type 0} (test keep : X → Bool) (xs : List X) (a : X)
    → find test xs ≡ Some a
    → keep a ≡ true
    → find test (filter keep xs) ≡ Some a
found_filtered test keep [] a there kept = absurd cc
found_filtered {X} test keep (x ∷ xs) a there kept =
    by (keep x) (test x) refl refl there (λ h. found_filtered test keep xs a h kept)
  where
    by : (k t : Bool)
        → keep x ≡ k
        → test x ≡ t
        → cond t (Some x) (find test xs) ≡ Some a
        → (find test xs ≡ Some a → find test (filter keep xs) ≡ Some a)
        → find test (cond k (x ∷ filter keep xs) (filter keep xs)) ≡ Some a
    by true true k t h more = rw t h
    by false true k t h more =
        let same : x ≡ a = cc in absurd (false≢true (sym k ∙ (ap keep same ∙ kept)))
    by true false k t h more = rw t (more h)
    by false false k t h more = more h

-- where no two pass, and what is found is dropped by a filter, nothing is found in what it keeps
pub only_dropped : {X : Type 0} (test keep : X → Bool) (xs : List X) (a : X)
    → PairsByRecursion (λ x y. test x ≡ true → test y ≡ false) xs
    → find test xs ≡ Some a
    → keep a ≡ false
    → find test (filter keep xs) ≡ None
only_dropped test keep [] a apart there dropped = refl
only_dropped {X} test keep (x ∷ xs) a apart there dropped =
    by (keep x) (test x) refl refl there (λ h. only_dropped test keep xs a apart.1 h dropped)
  where
    rest_none : test x ≡ true → find test (filter keep xs) ≡ None
    rest_none t = none_filtered test keep xs (nothing_found test xs (apply t xs apart.0))
      where
        apply : test x ≡ true
            → (ys : List X)
            → AllByRecursion (λ (y : X). test x ≡ true → test y ≡ false) ys
            → AllByRecursion (λ (y : X). test y ≡ false) ys
        apply t [] h = tt
        apply t (y ∷ ys) h = (h.0 t, apply t ys h.1)

    by : (k t : Bool)
        → keep x ≡ k
        → test x ≡ t
        → cond t (Some x) (find test xs) ≡ Some a
        → (find test xs ≡ Some a → find test (filter keep xs) ≡ None)
        → find test (cond k (x ∷ filter keep xs) (filter keep xs)) ≡ None
    by true true k t h more =
        let same : x ≡ a = cc in absurd (false≢true (sym dropped ∙ (ap keep (sym same) ∙ k)))
    by false true k t h more = rest_none t
    by true false k t h more = rw t (more h)
    by false false k t h more = more h

-- a test that finds nothing among what a filter keeps, or that looks only for what it keeps
pub any_none : {X : Type 0} (test : X → Bool) (xs : List X)
    → AllByRecursion (λ x. test x ≡ false) xs
    → list_any test xs ≡ false
any_none test [] none = refl
any_none test (x ∷ xs) none = let first = none.0 in rw first (any_none test xs none.1)

pub any_none_filtered : {X : Type 0} (test keep : X → Bool) (xs : List X)
    → list_any test xs ≡ false
    → list_any test (filter keep xs) ≡ false
any_none_filtered test keep [] none = refl
any_none_filtered {X} test keep (x ∷ xs) none =
    by (keep x) (test x) refl none (any_none_filtered test keep xs)
  where
    by : (k t : Bool)
        → test x ≡ t
        → (t || list_any test xs) ≡ false
        → (list_any test xs ≡ false → list_any test (filter keep xs) ≡ false)
        → list_any test (cond k (x ∷ filter keep xs) (filter keep xs)) ≡ false
    by k true t h more = absurd (false≢true (sym h))
    by true false t h more = rw t (more h)
    by false false t h more = more h

pub any_dropped : {X : Type 0} (test keep : X → Bool)
    → ((x : X) → test x ≡ true → keep x ≡ false)
    → (xs : List X)
    → list_any test (filter keep xs) ≡ false
any_dropped test keep dropped_too [] = refl
any_dropped {X} test keep dropped_too (x ∷ xs) =
    by (test x) (keep x) refl refl (any_dropped test keep dropped_too xs)
  where
    by : (t k : Bool)
        → test x ≡ t
        → keep x ≡ k
        → list_any test (filter keep xs) ≡ false
        → list_any test (cond k (x ∷ filter keep xs) (filter keep xs)) ≡ false
    by true true t k more = absurd (false≢true (sym (dropped_too x t) ∙ k))
    by true false t k more = more
    by false true t k more = rw t more
    by false false t k more = more

-- one that passes, of which something is known
pub any_known : {X : Type 0} (P : X → Type 0) (test : X → Bool) (xs : List X)
    → list_any test xs ≡ true
    → AllByRecursion P xs
    → (a : X) × (test a ≡ true) × P a
any_known P test [] there known = absurd (false≢true there)
any_known {X} P test (x ∷ xs) there known =
    by (test x) refl there (λ h. any_known P test xs h known.1)
  where
    by : (t : Bool)
        → test x ≡ t
        → (t || list_any test xs) ≡ true
        → (list_any test xs ≡ true → (a : X) × (test a ≡ true) × P a)
        → (a : X) × (test a ≡ true) × P a
    by true t h more = (x, t, known.0)
    by false t h more = more h
