-- Distinct criteria and all: the tests that all pass, what is among them, and how many pass a test.
use Rattle.std.proofs.Common.{
  ◌≡◌,
  ◌+◌,
  ◌≤◌,
  ◌⊎◌,
  inl,
  inr,
  Bool,
  true,
  false,
  cond,
  ◌&&◌,
  ◌||◌,
  bytes_eq,
  List,
  [],
  ◌∷◌,
  ◌++◌,
  length,
  filter,
  Contains,
  refl,
  sym,
  ap,
  ap₂,
  ◌∙◌,
  subst,
  arith,
}
use Rattle.std.proofs.lemmas.Bool.{true≢false}
use Rattle.std.proofs.lemmas.List.Folds.{list_all-append}
use Rattle.std.proofs.lemmas.Slice.Eq.{bytes_eq-Decides}
use Rattle.std.specs.List.{list_all}
use Rattle.rd_base.specs.declared.queries.Criterion.{Criterion}
use Rattle.rd_base.proofs.lemmas.Contains.{
  contains_cases,
  contains_first,
  contains_later,
  contains_none,
}
use Rattle.distinct_criteria.specs.Distinct.{distinct, is_among, is_same, unseen}
use Rattle.distinct_criteria.proofs.DistinctLaws.{passed, taken}

first_true : (a b : Bool) → (a && b) ≡ true → a ≡ true
first_true true b e = refl
first_true false b e = e

second_true : (a b : Bool) → (a && b) ≡ true → b ≡ true
second_true true b e = e
second_true false b e = absurd (true≢false (sym e))

-- criteria that are the same are equal
same_criterion : (one other : Criterion) → is_same one other ≡ true → one ≡ other
same_criterion one other same =
    ap₂ (λ name pattern. record { name = name; pattern = pattern })
    ((bytes_eq-Decides one.name other.name).0 (first_true (bytes_eq one.name other.name)
    (bytes_eq one.pattern other.pattern) same))
    ((bytes_eq-Decides one.pattern other.pattern).0
    (second_true (bytes_eq one.name other.name) (bytes_eq one.pattern other.pattern) same))

-- one that is among others is one of them
among_contains : (seen : List Criterion) (criterion : Criterion)
    → is_among seen criterion ≡ true
    → Contains seen criterion
among_contains [] criterion there = absurd (true≢false (sym there))
among_contains (other ∷ seen) criterion there =
    by (is_same other criterion) refl there (among_contains seen criterion)
  where
    by : (b : Bool)
        → is_same other criterion ≡ b
        → (b || is_among seen criterion) ≡ true
        → (is_among seen criterion ≡ true → Contains seen criterion)
        → Contains (other ∷ seen) criterion
    by true same h more =
        subst (λ (c : Criterion). Contains (other ∷ seen) c)
        (same_criterion other criterion same) (contains_first other seen)
    by false differs h more = contains_later other seen criterion (more h)

-- where all pass a test, one of them does
contained_passes : (test : Criterion → Bool) (seen : List Criterion) (criterion : Criterion)
    → Contains seen criterion
    → list_all test seen ≡ true
    → test criterion ≡ true
contained_passes test [] criterion there all = absurd (contains_none criterion there)
contained_passes test (other ∷ seen) criterion there all =
    by (contains_cases other seen criterion there)
    (λ more. contained_passes test seen criterion more
    (second_true (test other) (list_all test seen) all))
  where
    by : (other ≡ criterion) ⊎ Contains seen criterion
        → (Contains seen criterion → test criterion ≡ true)
        → test criterion ≡ true
    by (inl is) more = ap test (sym is) ∙ first_true (test other) (list_all test seen) all
    by (inr further) more = more further

-- ---- the tests that all pass

all_left : (test : Criterion → Bool) (seen criteria : List Criterion)
    → list_all test seen ≡ true
    → list_all test (unseen seen criteria) ≡ list_all test criteria
unfolding unseen
all_left test seen [] given = refl
all_left test seen (criterion ∷ criteria) given =
    by (is_among seen criterion) refl (test criterion) refl (all_left test seen criteria given)
    (all_left test (seen ++ criterion ∷ []) criteria)
  where
    by : (b : Bool)
        → is_among seen criterion ≡ b
        → (t : Bool)
        → test criterion ≡ t
        → list_all test (unseen seen criteria) ≡ list_all test criteria
        → (list_all test (seen ++ criterion ∷ []) ≡ true
        → list_all test (unseen (seen ++ criterion ∷ []) criteria) ≡ list_all test criteria)
        → list_all test
        (cond b (unseen seen criteria) (criterion ∷ unseen (seen ++ criterion ∷ []) criteria))
        ≡ list_all test (criterion ∷ criteria)
    by true there t told less more =
        less
        ∙ sym (ap (λ x. x && list_all test criteria)
        (contained_passes test seen criterion (among_contains seen criterion there) given))
    by false absent true told less more =
        ap (λ x. test criterion && x)
        (more (list_all-append test seen (criterion ∷ [])
        ∙ ap₂ (λ x y. x && (y && true)) given told))
    by false absent false told less more =
        ap (λ x. x && list_all test (unseen (seen ++ criterion ∷ []) criteria)) told
        ∙ sym (ap (λ x. x && list_all test criteria) told)

-- all of the distinct criteria pass a test where all criteria do
pub all_distinct : (test : Criterion → Bool) (criteria : List Criterion)
    → list_all test (distinct criteria) ≡ list_all test criteria
all_distinct test criteria = all_left test [] criteria refl

-- ---- what is among them

last_cases : (seen : List Criterion) (last criterion : Criterion)
    → Contains (seen ++ last ∷ []) criterion
    → Contains seen criterion ⊎ (last ≡ criterion)
last_cases [] last criterion there = by (contains_cases last [] criterion there)
  where
    by : (last ≡ criterion) ⊎ Contains [] criterion → Contains [] criterion ⊎ (last ≡ criterion)
    by (inl is) = inr is
    by (inr none) = inl none
last_cases (other ∷ seen) last criterion there =
    by (contains_cases other (seen ++ last ∷ []) criterion there)
    (last_cases seen last criterion)
  where
    step : Contains seen criterion ⊎ (last ≡ criterion)
        → Contains (other ∷ seen) criterion ⊎ (last ≡ criterion)
    step (inl further) = inl (contains_later other seen criterion further)
    step (inr is) = inr is

    by : (other ≡ criterion) ⊎ Contains (seen ++ last ∷ []) criterion
        → (Contains (seen ++ last ∷ []) criterion
        → Contains seen criterion ⊎ (last ≡ criterion))
        → Contains (other ∷ seen) criterion ⊎ (last ≡ criterion)
    by (inl is) more =
        inl (subst (λ (c : Criterion). Contains (other ∷ seen) c) is (contains_first other seen))
    by (inr further) more = step (more further)

left_or_seen : (seen criteria : List Criterion) (criterion : Criterion)
    → Contains criteria criterion
    → Contains seen criterion ⊎ Contains (unseen seen criteria) criterion
unfolding unseen
left_or_seen seen [] criterion there = absurd (contains_none criterion there)
left_or_seen seen (first ∷ criteria) criterion there =
    by (is_among seen first) refl (contains_cases first criteria criterion there)
    (left_or_seen seen criteria criterion)
    (left_or_seen (seen ++ first ∷ []) criteria criterion)
  where
    Left : Bool → Type 0
    Left b =
        Contains seen criterion
        ⊎ Contains (cond b (unseen seen criteria) (first ∷ unseen (seen ++ first ∷ []) criteria))
        criterion

    at_first : first ≡ criterion → Left false
    at_first is = inr (subst (λ (c : Criterion). Contains
        (first ∷ unseen (seen ++ first ∷ []) criteria) c) is
        (contains_first first (unseen (seen ++ first ∷ []) criteria)))

    earlier : Contains seen criterion ⊎ (first ≡ criterion) → Left false
    earlier (inl before) = inl before
    earlier (inr is) = at_first is

    kept : Contains (seen ++ first ∷ []) criterion
        ⊎ Contains (unseen (seen ++ first ∷ []) criteria) criterion
        → Left false
    kept (inl before) = earlier (last_cases seen first criterion before)
    kept (inr further) =
        inr (contains_later first (unseen (seen ++ first ∷ []) criteria) criterion further)

    by : (b : Bool)
        → is_among seen first ≡ b
        → (first ≡ criterion) ⊎ Contains criteria criterion
        → (Contains criteria criterion
        → Contains seen criterion ⊎ Contains (unseen seen criteria) criterion)
        → (Contains criteria criterion
        → Contains (seen ++ first ∷ []) criterion
        ⊎ Contains (unseen (seen ++ first ∷ []) criteria) criterion)
        → Left b
    by true among (inl is) less more =
        inl (subst (λ (c : Criterion). Contains seen c) is (among_contains seen first among))
    by true among (inr further) less more = less further
    by false absent (inl is) less more = at_first is
    by false absent (inr further) less more = kept (more further)

-- each criterion is among the distinct ones
pub contains_distinct : (criteria : List Criterion) (criterion : Criterion)
    → Contains criteria criterion
    → Contains (distinct criteria) criterion
contains_distinct criteria criterion there = by (left_or_seen [] criteria criterion there)
  where
    by : Contains [] criterion ⊎ Contains (distinct criteria) criterion
        → Contains (distinct criteria) criterion
    by (inl none) = absurd (contains_none criterion none)
    by (inr kept) = kept

-- ---- how many pass a test

fewer_left : (test : Criterion → Bool) (seen criteria : List Criterion)
    → length (filter test (unseen seen criteria)) ≤ length (filter test criteria)
unfolding unseen
fewer_left test seen [] = omega arith
fewer_left test seen (criterion ∷ criteria) =
    by (is_among seen criterion) (test criterion) refl (fewer_left test seen criteria)
    (fewer_left test (seen ++ criterion ∷ []) criteria)
  where
    by : (b t : Bool)
        → test criterion ≡ t
        → length (filter test (unseen seen criteria)) ≤ length (filter test criteria)
        → length (filter test (unseen (seen ++ criterion ∷ []) criteria))
        ≤ length (filter test criteria)
        → length (filter test
        (cond b (unseen seen criteria) (criterion ∷ unseen (seen ++ criterion ∷ []) criteria)))
        ≤ length (filter test (criterion ∷ criteria))
    by true true told less more = rw told (omega (arith, less))
    by true false told less more = rw told less
    by false true told less more = rw told (omega (arith, more))
    by false false told less more = rw told more

-- no more of the distinct criteria pass a test than of all
pub fewer_distinct : (test : Criterion → Bool) (criteria : List Criterion)
    → length (filter test (distinct criteria)) ≤ length (filter test criteria)
fewer_distinct test criteria = fewer_left test [] criteria
