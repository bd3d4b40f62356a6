-- Walks over observers: whether one passes a test, the one with an index, and the next that is due.
use Rattle.std.proofs.Common.{
  ◌≡◌,
  ℕ,
  ◌+◌,
  ◌-◌,
  ◌<◌,
  ◌≤◌,
  zero,
  suc,
  Bool,
  true,
  false,
  not,
  ◌||◌,
  cond,
  List,
  [],
  ◌∷◌,
  length,
  get_or,
  set,
  drop,
  find,
  slice_get,
  IfSome,
  IfNone,
  subst,
  Some,
  None,
  Option,
  is_some,
  refl,
  sym,
  ap,
  ◌∙◌,
  arith,
}
use Rattle.std.specs.List.{list_any, position}
use Rattle.std.proofs.lemmas.Bool.{and_parts}
use Rattle.rd_base.specs.Firsts.{without_first}
use Rattle.rd_base.proofs.lemmas.Firsts.{find-or, find-nowhere, without_first-unfound}
use Rattle.observers.specs.Standing.{
  Standing,
  is_awaited,
  is_ready,
  first_from,
  next_ready,
  changed_at,
}

-- ---- whether one passes a test

any_found : (test : Standing → Bool) (xs : List Standing)
    → list_any test xs ≡ is_some (find test xs)
any_found test [] = refl
any_found test (x ∷ xs) = by (test x) (any_found test xs)
  where
    by : (b : Bool)
        → list_any test xs ≡ is_some (find test xs)
        → (b || list_any test xs) ≡ is_some (cond b (Some x) (find test xs))
    by true more = refl
    by false more = more

pub any-first : (test : Standing → Bool) (xs : List Standing) (i : ℕ)
    → position test xs ≡ Some i
    → true ≡ list_any test xs
any-first test [] i there = absurd cc
any-first test (x ∷ xs) i there =
    sym (any_found test (x ∷ xs) ∙ ap is_some (find-or test (x ∷ xs) i x there))

pub any-nowhere : (test : Standing → Bool) (xs : List Standing)
    → position test xs ≡ None
    → false ≡ list_any test xs
any-nowhere test xs none = sym (any_found test xs ∙ ap is_some (find-nowhere test xs none))

-- ---- the one with an index

pub changed-set : (change : Standing → Standing) (xs : List Standing) (i : ℕ) (w : Standing)
    → i < length xs
    → w ≡ get_or xs i w
    → set xs i (change w) ≡ changed_at change i xs
changed-set change [] i w inside is = absurd (omega (arith, inside))
changed-set change (x ∷ xs) zero w inside is = rw (sym is) refl
changed-set change (x ∷ xs) (suc i) w inside is =
    ap (λ rest. x ∷ rest) (changed-set change xs i w (omega (arith, inside)) is)

pub got-at : (xs : List Standing) (i : ℕ) (w v : Standing)
    → w ≡ get_or xs i w
    → slice_get xs i ≡ Some v
    → v ≡ w
got-at [] i w v is there = absurd cc
got-at (x ∷ xs) zero w v is there = let same : x ≡ v = cc in sym same ∙ sym is
got-at (x ∷ xs) (suc i) w v is there = got-at xs i w v is there

pub inside-at : (xs : List Standing) (i : ℕ)
    → i < length xs
    → (w : Standing) × (slice_get xs i ≡ Some w)
inside-at [] i inside = absurd (omega (arith, inside))
inside-at (x ∷ xs) zero inside = (x, refl)
inside-at (x ∷ xs) (suc i) inside = inside-at xs i (omega (arith, inside))

-- ---- the next that is due

from_index : (xs : List Standing) (i : ℕ) (w : Standing)
    → slice_get xs i ≡ Some w
    → drop i xs ≡ w ∷ drop (suc i) xs
from_index [] i w is = absurd cc
from_index (x ∷ xs) zero w is = let same : x ≡ w = cc in ap (λ y. y ∷ xs) same
from_index (x ∷ xs) (suc i) w is = from_index xs i w is

pub next-here : (xs : List Standing) (i : ℕ) (w : Standing)
    → slice_get xs i ≡ Some w
    → is_ready xs w ≡ true
    → Some i ≡ next_ready i xs
unfolding next_ready
next-here xs i w is ready =
    sym (ap (first_from (is_ready xs) i) (from_index xs i w is) ∙ (rw ready refl))

pub next-later : (xs : List Standing) (i : ℕ) (w : Standing)
    → slice_get xs i ≡ Some w
    → is_ready xs w ≡ false
    → next_ready (i + 1) xs ≡ next_ready i xs
unfolding next_ready
next-later xs i w is ready =
    let more : i + 1 ≡ suc i = omega arith in
    ap (λ n. first_from (is_ready xs) (i + 1) (drop n xs)) more
    ∙ sym (ap (first_from (is_ready xs) i) (from_index xs i w is) ∙ (rw ready refl))

drop_past : (xs : List Standing) (i : ℕ) → length xs ≤ i → drop i xs ≡ []
drop_past [] zero over = refl
drop_past [] (suc i) over = refl
drop_past (x ∷ xs) zero over = absurd (omega arith)
drop_past (x ∷ xs) (suc i) over = drop_past xs i (omega arith)

pub next-none : (xs : List Standing) (i : ℕ) → length xs ≤ i → next_ready i xs ≡ None
unfolding next_ready
next-none xs i over = ap (first_from (is_ready xs) i) (drop_past xs i over)

pub past-get : (xs : List Standing) (i : ℕ) → None ≡ slice_get xs i → length xs ≤ i
past-get [] i none = omega arith
past-get (x ∷ xs) zero none = absurd cc
past-get (x ∷ xs) (suc i) none = let rest = past-get xs i none in omega (arith, rest)

pub next-past : (xs : List Standing) (i : ℕ)
    → None ≡ slice_get xs i
    → next_ready (i + 1) xs ≡ next_ready i xs
next-past xs i none =
    let over = past-get xs i none in
    next-none xs (i + 1) (omega (arith, over)) ∙ sym (next-none xs i over)

-- ---- what the next is

next_is : (test : Standing → Bool) (ws : List Standing) (at i : ℕ)
    → first_from test at ws ≡ Some i
    → (k : ℕ) × (w : Standing) × (i ≡ at + k) × (slice_get ws k ≡ Some w)
    × (test w ≡ true)
next_is test [] at i is = absurd cc
next_is test (w ∷ ws) at i is = by (test w) refl is (next_is test ws (at + 1) i)
  where
    by : (b : Bool) → test w ≡ b → cond b (Some at) (first_from test (at + 1) ws) ≡ Some i
        → (first_from test (at + 1) ws ≡ Some i
        → (k : ℕ)
        × (x : Standing)
        × (i ≡ (at + 1) + k)
        × (slice_get ws k ≡ Some x)
        × (test x ≡ true))
        → (k : ℕ) × (x : Standing) × (i ≡ at + k) × (slice_get (w ∷ ws) k ≡ Some x)
        × (test x ≡ true)
    by true e g more = let same : at ≡ i = cc in (0, w, (omega (arith, same)), refl, e)
    by false e g more =
        let rest = more g in
        let sum = rest.2 in (suc rest.0, rest.1, (omega (arith, sum)), rest.3, rest.4)

get_dropped : (ws : List Standing) (from k : ℕ) (w : Standing)
    → slice_get (drop from ws) k ≡ Some w
    → slice_get ws (from + k) ≡ Some w
get_dropped ws zero k w is =
    let none : k ≡ zero + k = omega arith in ap (slice_get ws) (sym none) ∙ dropped_none ws k w is
  where
    dropped_none : (xs : List Standing) (j : ℕ) (x : Standing)
        → slice_get (drop zero xs) j ≡ Some x
        → slice_get xs j ≡ Some x
    dropped_none [] j x e = e
    dropped_none (y ∷ xs) j x e = e
get_dropped [] (suc from) k w is = absurd cc
get_dropped (x ∷ ws) (suc from) k w is =
    let more : suc (from + k) ≡ suc from + k = omega arith in
    ap (slice_get (x ∷ ws)) (sym more) ∙ get_dropped ws from k w is

-- the next that is due: its index, and what it is
pub record IsNext (from : ℕ) (ws : List Standing) (i : ℕ) : Type 0 where
  pub after : from ≤ i
  pub standing : Standing
  pub there : slice_get ws i ≡ Some standing
  pub ready : is_ready ws standing ≡ true

pub next-IsNext : (from : ℕ) (ws : List Standing) (i : ℕ)
    → next_ready from ws ≡ Some i
    → IsNext from ws i
unfolding next_ready
next-IsNext from ws i is =
    let found = next_is (is_ready ws) (drop from ws) from i is in
    let sum = found.2 in
    record {
      after = omega (arith, sum);
      standing = found.1;
      there = ap (slice_get ws) sum ∙ get_dropped ws from found.0 found.1 found.3;
      ready = found.4;
    }

pub got-within : (ws : List Standing) (i : ℕ) (w : Standing) → slice_get ws i ≡ Some w
    → i < length ws
got-within [] i w is = absurd cc
got-within (x ∷ ws) zero w is = omega arith
got-within (x ∷ ws) (suc i) w is = let rest = got-within ws i w is in omega (arith, rest)

pub next-within : (from : ℕ) (ws : List Standing) (r : Option ℕ)
    → r ≡ next_ready from ws
    → IfSome r (λ i. (from ≤ i) × (i < length ws))
next-within from ws None is = tt
next-within from ws (Some i) is =
    let next = next-IsNext from ws i (sym is) in
    (next.after, got-within ws i next.standing next.there)

not_true : (b : Bool) → not b ≡ true → b ≡ false
not_true true h = sym h
not_true false h = refl

pub next-free : (from : ℕ) (ws : List Standing) (r : Option ℕ) (w : Standing)
    → r ≡ next_ready from ws
    → IfSome r (λ i. slice_get ws i ≡ Some w → is_awaited w.peer ws ≡ false)
next-free from ws None w is = tt
next-free from ws (Some i) w is = λ there.
    let next = next-IsNext from ws i (sym is) in
    let same : Some next.standing ≡ Some w = sym next.there ∙ there in
    let both = and_parts next.standing.due (not (is_awaited next.standing.peer ws)) next.ready in
    subst (λ x. is_awaited x.peer ws ≡ false) (one same)
    (not_true (is_awaited next.standing.peer ws) both.1)
  where
    one : {x y : Standing} → Some x ≡ Some y → x ≡ y
    one e = cc

-- where none was found to be taken out, none is there
pub absent-after : (test : Standing → Bool) (xs after : List Standing) (r : Option Standing)
    → r ≡ find test xs
    → after ≡ without_first test xs
    → IfNone r (list_any test after ≡ false)
absent-after test xs after (Some w) is left = tt
absent-after test xs after None is left =
    ap (list_any test) (left ∙ without_first-unfound test xs (sym is))
    ∙ (any_found test xs ∙ ap is_some (sym is))

pub get-slice : (xs : List Standing) (i : ℕ) (w : Standing)
    → i < length xs
    → w ≡ get_or xs i w
    → slice_get xs i ≡ Some w
get-slice [] i w inside is = absurd (omega (arith, inside))
get-slice (x ∷ xs) zero w inside is = ap (λ y. Some y) (sym is)
get-slice (x ∷ xs) (suc i) w inside is = get-slice xs i w (omega (arith, inside)) is

pub got-any : (xs : List Standing) (i : ℕ) (w d v : Standing)
    → v ≡ get_or xs i d
    → slice_get xs i ≡ Some w
    → v ≡ w
got-any [] i w d v is there = absurd cc
got-any (x ∷ xs) zero w d v is there = let same : x ≡ w = cc in is ∙ same
got-any (x ∷ xs) (suc i) w d v is there = got-any xs i w d v is there
