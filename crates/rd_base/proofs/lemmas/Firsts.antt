-- The first element that passes a test: where it stands, what is found, and what changes.
use Rattle.std.proofs.Common.{
  ◌≡◌,
  ℕ,
  ◌+◌,
  ◌<◌,
  ◌≤◌,
  zero,
  suc,
  Bool,
  true,
  false,
  not,
  cond,
  ltb,
  List,
  [],
  ◌∷◌,
  length,
  get_or,
  set,
  find,
  Some,
  None,
  refl,
  sym,
  ap,
  ◌∙◌,
  arith,
}
use Rattle.std.specs.List.{position, position_or_len, remove}
use Rattle.std.proofs.lemmas.List.Quantifiers.{position-Some}
use Rattle.rd_base.specs.Firsts.{changed_first, without_first}

-- ---- it stands at an index

-- it passes, and none before it does
abbrev IsFirst : {X : Type 0} → (X → Bool) → List X → ℕ → X → Type 0
IsFirst test xs i d =
    (i < length xs)
    × (test (get_or xs i d) ≡ true)
    × ((k : ℕ) → k < i → test (get_or xs k d) ≡ false)

further : {X : Type 0} (test : X → Bool) (x : X) (xs : List X) (i : ℕ) (d : X)
    → IsFirst test (x ∷ xs) (suc i) d
    → IsFirst test xs i d
further test x xs i d (inside, it, others) =
    (omega (arith, inside), it, λ k below. others (suc k) (omega (arith, below)))

changed_at : {X : Type 0} (test : X → Bool) (change : X → X) (xs : List X) (i : ℕ) (d : X)
    → IsFirst test xs i d
    → set xs i (change (get_or xs i d)) ≡ changed_first test change xs
unfolding changed_first
changed_at test change [] i d (inside, it, others) = absurd (omega (arith, inside))
changed_at test change (x ∷ xs) zero d (inside, it, others) = rw it refl
changed_at test change (x ∷ xs) (suc i) d first =
    let no : test x ≡ false = first.2 zero (omega arith) in
    rw no (ap (λ rest. x ∷ rest) (changed_at test change xs i d (further test x xs i d first)))

without_at : {X : Type 0} (test : X → Bool) (xs : List X) (i : ℕ) (d : X)
    → IsFirst test xs i d
    → remove xs i ≡ without_first test xs
unfolding without_first
without_at test [] i d (inside, it, others) = absurd (omega (arith, inside))
without_at test (x ∷ xs) zero d (inside, it, others) = rw it refl
without_at test (x ∷ xs) (suc i) d first =
    let no : test x ≡ false = first.2 zero (omega arith) in
    rw no (ap (λ rest. x ∷ rest) (without_at test xs i d (further test x xs i d first)))

found_at : {X : Type 0} (test : X → Bool) (xs : List X) (i : ℕ) (d : X)
    → IsFirst test xs i d
    → find test xs ≡ Some (get_or xs i d)
found_at test [] i d (inside, it, others) = absurd (omega (arith, inside))
found_at test (x ∷ xs) zero d (inside, it, others) = rw it refl
found_at test (x ∷ xs) (suc i) d first =
    let no : test x ≡ false = first.2 zero (omega arith) in
    rw no (found_at test xs i d (further test x xs i d first))

pub changed_first-at : {X : Type 0} (test : X → Bool) (change : X → X) (xs : List X) (i : ℕ) (x : X)
    → position test xs ≡ Some i
    → x ≡ get_or xs i x
    → set xs i (change x) ≡ changed_first test change xs
changed_first-at test change xs i x there is =
    ap (λ y. set xs i (change y)) is
    ∙ changed_at test change xs i x (position-Some test xs i x there)

pub without_first-at : {X : Type 0} (test : X → Bool) (xs : List X) (i : ℕ)
    → position test xs ≡ Some i
    → remove xs i ≡ without_first test xs
without_first-at test [] i there = absurd cc
without_first-at test (x ∷ xs) i there =
    without_at test (x ∷ xs) i x (position-Some test (x ∷ xs) i x there)

-- it is what is found
pub find-at : {X : Type 0} (test : X → Bool) (xs : List X) (i : ℕ) (x : X)
    → position test xs ≡ Some i
    → x ≡ get_or xs i x
    → find test xs ≡ Some x
find-at test xs i x there is =
    found_at test xs i x (position-Some test xs i x there) ∙ ap (λ y. Some y) (sym is)

pub find-or : {X : Type 0} (test : X → Bool) (xs : List X) (i : ℕ) (d : X)
    → position test xs ≡ Some i
    → find test xs ≡ Some (get_or xs i d)
find-or test xs i d there = found_at test xs i d (position-Some test xs i d there)

-- its index is within
pub index_within : {X : Type 0} (test : X → Bool) (xs : List X) (i : ℕ)
    → position test xs ≡ Some i
    → i < length xs
index_within test [] i there = absurd cc
index_within test (x ∷ xs) i there = (position-Some test (x ∷ xs) i x there).0

-- ---- it is nowhere

nowhere : {X : Type 0} (test : X → Bool) (xs : List X)
    → position test xs ≡ None
    → length xs ≤ position_or_len test xs
nowhere test xs none = by (ltb (position_or_len test xs) (length xs)) refl none
  where
    by : (b : Bool)
        → ltb (position_or_len test xs) (length xs) ≡ b
        → cond b (Some (position_or_len test xs)) None ≡ None
        → length xs ≤ position_or_len test xs
    by true e h = absurd cc
    by false e h = grind (arith, e)

changed_past : {X : Type 0} (test : X → Bool) (change : X → X) (xs : List X)
    → length xs ≤ position_or_len test xs
    → xs ≡ changed_first test change xs
unfolding changed_first
changed_past test change [] h = refl
changed_past test change (x ∷ xs) h = by (test x) h (changed_past test change xs)
  where
    by : (b : Bool)
        → length (x ∷ xs) ≤ cond (not b) (1 + position_or_len test xs) 0
        → (length xs ≤ position_or_len test xs → xs ≡ changed_first test change xs)
        → x ∷ xs ≡ cond b (change x ∷ xs) (x ∷ changed_first test change xs)
    by true g more = absurd (omega (arith, g))
    by false g more = ap (λ rest. x ∷ rest) (more (omega (arith, g)))

without_past : {X : Type 0} (test : X → Bool) (xs : List X)
    → length xs ≤ position_or_len test xs
    → xs ≡ without_first test xs
unfolding without_first
without_past test [] h = refl
without_past test (x ∷ xs) h = by (test x) h (without_past test xs)
  where
    by : (b : Bool)
        → length (x ∷ xs) ≤ cond (not b) (1 + position_or_len test xs) 0
        → (length xs ≤ position_or_len test xs → xs ≡ without_first test xs)
        → x ∷ xs ≡ cond b xs (x ∷ without_first test xs)
    by true g more = absurd (omega (arith, g))
    by false g more = ap (λ rest. x ∷ rest) (more (omega (arith, g)))

found_past : {X : Type 0} (test : X → Bool) (xs : List X)
    → length xs ≤ position_or_len test xs
    → find test xs ≡ None
found_past test [] h = refl
found_past test (x ∷ xs) h = by (test x) h (found_past test xs)
  where
    by : (b : Bool)
        → length (x ∷ xs) ≤ cond (not b) (1 + position_or_len test xs) 0
        → (length xs ≤ position_or_len test xs → find test xs ≡ None)
        → cond b (Some x) (find test xs) ≡ None
    by true g more = absurd (omega (arith, g))
    by false g more = more (omega (arith, g))

pub changed_first-nowhere : {X : Type 0} (test : X → Bool) (change : X → X) (xs : List X)
    → position test xs ≡ None
    → xs ≡ changed_first test change xs
changed_first-nowhere test change xs none = changed_past test change xs (nowhere test xs none)

pub without_first-nowhere : {X : Type 0} (test : X → Bool) (xs : List X)
    → position test xs ≡ None
    → xs ≡ without_first test xs
without_first-nowhere test xs none = without_past test xs (nowhere test xs none)

pub find-nowhere : {X : Type 0} (test : X → Bool) (xs : List X)
    → position test xs ≡ None
    → find test xs ≡ None
find-nowhere test xs none = found_past test xs (nowhere test xs none)

-- ---- where none is found, all stay

pub without_first-unfound : {X : Type 0} (test : X → Bool) (xs : List X)
    → find test xs ≡ None
    → without_first test xs ≡ xs
unfolding without_first
without_first-unfound test [] none = refl
without_first-unfound test (x ∷ xs) none = by (test x) none (without_first-unfound test xs)
  where
    by : (b : Bool)
        → cond b (Some x) (find test xs) ≡ None
        → (find test xs ≡ None → without_first test xs ≡ xs)
        → cond b xs (x ∷ without_first test xs) ≡ x ∷ xs
    by true h more = absurd cc
    by false h more = ap (λ rest. x ∷ rest) (more h)

-- ---- how many are left

pub length-changed_first : {X : Type 0} (test : X → Bool) (change : X → X) (xs : List X)
    → length (changed_first test change xs) ≡ length xs
unfolding changed_first
length-changed_first test change [] = refl
length-changed_first test change (x ∷ xs) = by (test x) (length-changed_first test change xs)
  where
    by : (b : Bool)
        → length (changed_first test change xs) ≡ length xs
        → length (cond b (change x ∷ xs) (x ∷ changed_first test change xs)) ≡ length (x ∷ xs)
    by true more = refl
    by false more = ap (λ n. suc n) more

pub length-without_first : {X : Type 0} (test : X → Bool) (xs : List X)
    → length (without_first test xs) ≤ length xs
unfolding without_first
length-without_first test [] = omega arith
length-without_first test (x ∷ xs) = by (test x) (length-without_first test xs)
  where
    by : (b : Bool)
        → length (without_first test xs) ≤ length xs
        → length (cond b xs (x ∷ without_first test xs)) ≤ length (x ∷ xs)
    by true more = omega arith
    by false more = omega (arith, more)

-- where one is found, one fewer is left
pub length-without_found : {X : Type 0} (test : X → Bool) (xs : List X) (x : X)
    → find test xs ≡ Some x
    → length (without_first test xs) + 1 ≡ length xs
unfolding without_first
length-without_found test [] x there = absurd cc
length-without_found test (y ∷ ys) x there = by (test y) there (length-without_found test ys x)
  where
    by : (b : Bool)
        → cond b (Some y) (find test ys) ≡ Some x
        → (find test ys ≡ Some x → length (without_first test ys) + 1 ≡ length ys)
        → length (cond b ys (y ∷ without_first test ys)) + 1 ≡ length (y ∷ ys)
    by true h more = omega arith
    by false h more = let e = more h in omega (arith, e)
