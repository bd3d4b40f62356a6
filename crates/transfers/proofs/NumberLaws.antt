-- The kept answers of a cache by their numbers: the number that is found under a name, and what is
-- put under one.
use Rattle.std.proofs.Common.{
  ◌≡◌,
  ℕ,
  ◌+◌,
  ◌-◌,
  ◌<◌,
  ◌≤◌,
  zero,
  suc,
  nat_eq,
  Bool,
  true,
  false,
  cond,
  List,
  [],
  ◌∷◌,
  ◌++◌,
  length,
  take,
  find,
  Option,
  Some,
  None,
  option_map,
  option_and_then,
  refl,
  sym,
  ap,
  subst,
  ◌∙◌,
  arith,
}
use Rattle.std.specs.List.{AllByRecursion, IsDistinct}
use Rattle.std.specs.Option.{option_map_or}
use Rattle.std.specs.Map.{keys_of, lookup, lookup_entry, remove_entry}
use Rattle.std.proofs.lemmas.List.{take_all}
use Rattle.rd_base.proofs.lemmas.Options.{none_some, some_same}
use Rattle.rd_base.proofs.lemmas.Numbers.{eqb-refl}
use Rattle.rd_base.proofs.lemmas.Each.{each_weaker}
use Rattle.std.specs.Map.{set_value}
use Rattle.lru.specs.LruCache.{LruCache, promoted, put_entries}
use Rattle.event_model.specs.Events.{is_young}
use Rattle.event_model.specs.Same.{RequestName}
use Rattle.event_model.specs.KeptAnswers.{KeptAnswer}
use Rattle.event_model.proofs.SameLaws.{is_same_request-Decides}
use Rattle.rd_base.specs.Firsts.{without_first}
use Rattle.rd_base.proofs.lemmas.Firsts.{length-without_found, without_first-unfound}
use Rattle.transfers.specs.Keeping.{
  is_kept_as,
  used,
  used_at,
  values,
  AreBelow,
  live_kept,
  number_for,
}

-- pairs of numbers and answers
abbrev Pairs : Type 0
Pairs = List (ℕ × KeptAnswer)

-- ---- lists of values

pub find-values : (test : KeptAnswer → Bool) (pairs : Pairs)
    → find test (values pairs) ≡ option_map (λ p. p.1) (find (λ p. test p.1) pairs)
find-values test [] = refl
find-values test (p ∷ ps) = by (test p.1) (find-values test ps)
  where
    by : (b : Bool)
        → find test (values ps) ≡ option_map (λ q. q.1) (find (λ q. test q.1) ps)
        → cond b (Some p.1) (find test (values ps))
        ≡ option_map (λ q. q.1) (cond b (Some p) (find (λ q. test q.1) ps))
    by true more = refl
    by false more = more

pub length-values : (pairs : Pairs) → length (values pairs) ≡ length pairs
length-values [] = refl
length-values (p ∷ ps) = ap (λ n. suc n) (length-values ps)

values-take : (n : ℕ) (pairs : Pairs) → values (take n pairs) ≡ take n (values pairs)
values-take zero pairs = refl
values-take (suc n) [] = refl
values-take (suc n) (p ∷ ps) = ap (λ xs. p.1 ∷ xs) (values-take n ps)

-- what holds of each key holds of that which is found
key_found : (P : ℕ → Type 0) (test : KeptAnswer → Bool) (pairs : Pairs) (p : ℕ × KeptAnswer)
    → AllByRecursion P (keys_of pairs)
    → find (λ q. test q.1) pairs ≡ Some p
    → P p.0
key_found P test [] p each there = absurd (none_some there)
key_found P test (q ∷ qs) p each there = by (test q.1) there (key_found P test qs p each.1)
  where
    by : (b : Bool)
        → cond b (Some q) (find (λ r. test r.1) qs) ≡ Some p
        → (find (λ r. test r.1) qs ≡ Some p → P p.0)
        → P p.0
    by true h more = subst (λ (r : ℕ × KeptAnswer). P r.0) (some_same h) each.0
    by false h more = more h

other_number : (m n : ℕ) → nat_eq m n ≡ false → nat_eq n m ≡ false
other_number m n h = grind (arith, h)

-- what a name finds stands under its number, and is the first of the name
pub found_entry : (test : KeptAnswer → Bool) (pairs : Pairs) (p : ℕ × KeptAnswer)
    → IsDistinct nat_eq (keys_of pairs)
    → find (λ q. test q.1) pairs ≡ Some p
    → (lookup_entry (nat_eq p.0) pairs ≡ Some p)
    × (values (remove_entry (nat_eq p.0) pairs) ≡ without_first test (values pairs))
unfolding IsDistinct without_first
found_entry test [] p distinct there = absurd (none_some there)
found_entry test (q ∷ qs) p distinct there =
    by (test q.1) refl there (found_entry test qs p distinct.1)
  where
    Here : Bool → Type 0
    Here b = (cond (nat_eq p.0 q.0) (Some q) (lookup_entry (nat_eq p.0) qs) ≡ Some p)
        × (values (cond (nat_eq p.0 q.0) qs (q ∷ remove_entry (nat_eq p.0) qs))
        ≡ cond b (values qs) (q.1 ∷ without_first test (values qs)))

    by : (b : Bool) → test q.1 ≡ b → cond b (Some q) (find (λ r. test r.1) qs) ≡ Some p
        → (find (λ r. test r.1) qs ≡ Some p
        → (lookup_entry (nat_eq p.0) qs ≡ Some p)
        × (values (remove_entry (nat_eq p.0) qs) ≡ without_first test (values qs)))
        → Here b
    by true t h more =
        let same : q ≡ p = some_same h in
        let number : nat_eq p.0 q.0 ≡ true =
        subst (λ (r : ℕ × KeptAnswer). nat_eq p.0 r.0 ≡ true) (sym same) (eqb-refl p.0) in
        (rw number (ap (λ r. Some r) same), rw number refl)
    by false t h more =
        let number : nat_eq p.0 q.0 ≡ false =
        other_number q.0 p.0 (key_found (λ k. nat_eq q.0 k ≡ false) test qs p distinct.0 h) in
        let rest = more h in
        (rw number rest.0, rw number (ap (λ xs. q.1 ∷ xs) rest.1))

-- a number that is above those of the cache stands for nothing
absent : (number : ℕ) (pairs : Pairs)
    → AreBelow number pairs
    → lookup_entry (nat_eq number) pairs ≡ None
absent number [] below = refl
absent number (p ∷ ps) below =
    let lt = below.0 in
    let other : nat_eq number p.0 ≡ false = grind (arith, lt) in
    rw other (absent number ps below.1)

-- ---- a use

-- the first of the name goes, and the answer stands first
put_first : (name : RequestName) (pairs : Pairs) (p : ℕ × KeptAnswer) (x : KeptAnswer)
    → IsDistinct nat_eq (keys_of pairs)
    → length pairs ≤ 64
    → find (λ q. is_kept_as name q.1) pairs ≡ Some p
    → x.name ≡ name
    → x ∷ values (remove_entry (nat_eq p.0) pairs) ≡ used x (values pairs)
unfolding used
put_first name pairs p x distinct few there named =
    let found = found_entry (is_kept_as name) pairs p distinct there in
    let there_too : find (is_kept_as name) (values pairs) ≡ Some p.1 =
    find-values (is_kept_as name) pairs ∙ ap (option_map (λ (q : ℕ × KeptAnswer). q.1)) there in
    let one_fewer = length-without_found (is_kept_as name) (values pairs) p.1 there_too in
    let as_many = length-values pairs in
    let short : length (without_first (is_kept_as name) (values pairs)) ≤ 63 =
    omega (arith, one_fewer, as_many, few) in
    ap (λ xs. x ∷ xs)
    (found.1 ∙ sym (take_all 63 (without_first (is_kept_as name) (values pairs)) short))
    ∙ ap (λ (n : RequestName). x ∷ take 63 (without_first (is_kept_as n) (values pairs)))
    (sym named)

found_name : (name : RequestName) (pairs : Pairs) (p : ℕ × KeptAnswer)
    → find (λ q. is_kept_as name q.1) pairs ≡ Some p
    → p.1.name ≡ name
found_name name [] p there = absurd (none_some there)
found_name name (q ∷ qs) p there = by (is_kept_as name q.1) refl there (found_name name qs p)
  where
    by : (b : Bool)
        → is_kept_as name q.1 ≡ b
        → cond b (Some q) (find (λ r. is_kept_as name r.1) qs) ≡ Some p
        → (find (λ r. is_kept_as name r.1) qs ≡ Some p → p.1.name ≡ name)
        → p.1.name ≡ name
    by true s h more =
        subst (λ (r : ℕ × KeptAnswer). r.1.name ≡ name) (some_same h)
        (sym ((is_same_request-Decides name q.1.name).0 s))
    by false s h more = more h

pub values-used : (now : ℕ) (name : RequestName) (pairs : Pairs) (p : ℕ × KeptAnswer)
    → IsDistinct nat_eq (keys_of pairs)
    → length pairs ≤ 64
    → find (λ q. is_kept_as name q.1) pairs ≡ Some p
    → used_at now p.1 ∷ values (remove_entry (nat_eq p.0) pairs)
    ≡ used (used_at now p.1) (values pairs)
values-used now name pairs p distinct few there =
    put_first name pairs p (used_at now p.1) distinct few there (found_name name pairs p there)

-- ---- an answer that is put

below_more : (number : ℕ) (pairs : Pairs) → AreBelow number pairs → AreBelow (number + 1) pairs
below_more number pairs below =
    each_weaker (λ (p : ℕ × KeptAnswer). p.0 < number) (λ (p : ℕ × KeptAnswer). p.0 < number + 1)
    (λ p lt. omega (arith, lt)) pairs below

below_take : (number n : ℕ) (pairs : Pairs) → AreBelow number pairs → AreBelow number (take n pairs)
below_take number zero pairs below = tt
below_take number (suc n) [] below = tt
below_take number (suc n) (p ∷ ps) below = (below.0, below_take number n ps below.1)

below_removed : (number : ℕ) (test : ℕ → Bool) (pairs : Pairs)
    → AreBelow number pairs
    → AreBelow number (remove_entry test pairs)
below_removed number test [] below = tt
below_removed number test (p ∷ ps) below = by (test p.0) (below_removed number test ps below.1)
  where
    by : (b : Bool)
        → AreBelow number (remove_entry test ps)
        → AreBelow number (cond b ps (p ∷ remove_entry test ps))
    by true more = below.1
    by false more = (below.0, more)

below_found : (number : ℕ) (test : KeptAnswer → Bool) (pairs : Pairs) (p : ℕ × KeptAnswer)
    → AreBelow number pairs
    → find (λ q. test q.1) pairs ≡ Some p
    → p.0 < number
below_found number test [] p below there = absurd (none_some there)
below_found number test (q ∷ qs) p below there =
    by (test q.1) there (below_found number test qs p below.1)
  where
    by : (b : Bool)
        → cond b (Some q) (find (λ r. test r.1) qs) ≡ Some p
        → (find (λ r. test r.1) qs ≡ Some p → p.0 < number)
        → p.0 < number
    by true h more = subst (λ (r : ℕ × KeptAnswer). r.0 < number) (some_same h) below.0
    by false h more = more h

-- the entries after it
after : (c : LruCache ℕ KeptAnswer) (n : ℕ) (kept : KeptAnswer) (o : Option (ℕ × KeptAnswer))
    → lookup_entry (nat_eq n) c.entries ≡ o
    → put_entries nat_eq c n kept
    ≡ option_map_or (λ (e : ℕ × KeptAnswer). (e.0, kept) ∷ remove_entry (nat_eq n) c.entries) o
    ((n, kept) ∷ take (c.cap - 1) c.entries)
after c n kept o is = rw is refl

new_first : (kept : KeptAnswer) (pairs : Pairs)
    → find (is_kept_as kept.name) (values pairs) ≡ None
    → kept ∷ values (take 63 pairs) ≡ used kept (values pairs)
unfolding used
new_first kept pairs none =
    ap (λ xs. kept ∷ xs) (values-take 63 pairs
    ∙ ap (take 63) (sym (without_first-unfound (is_kept_as kept.name) (values pairs) none)))

pub keep-values : (c : LruCache ℕ KeptAnswer) (number : ℕ) (kept : KeptAnswer)
    → IsDistinct nat_eq (keys_of c.entries)
    → length c.entries ≤ c.cap
    → c.cap ≡ 64
    → AreBelow number c.entries
    → values (put_entries nat_eq c (number_for kept.name number c.entries) kept)
    ≡ used kept (values c.entries)
keep-values c number kept distinct few room below =
    by (find (λ p. is_kept_as kept.name p.1) c.entries) refl
  where
    by : (o : Option (ℕ × KeptAnswer))
        → find (λ p. is_kept_as kept.name p.1) c.entries ≡ o
        → values (put_entries nat_eq c (number_for kept.name number c.entries) kept)
        ≡ used kept (values c.entries)
    by None none =
        let none_too : find (is_kept_as kept.name) (values c.entries) ≡ None =
        find-values (is_kept_as kept.name) c.entries
        ∙ ap (option_map (λ (q : ℕ × KeptAnswer). q.1)) none in
        rw none (ap values (after c number kept None (absent number c.entries below))
        ∙ (ap (λ n. kept ∷ values (take (n - 1) c.entries)) room
        ∙ new_first kept c.entries none_too))
    by (Some p) there =
        let at_most : length c.entries ≤ 64 = omega (arith, few, room) in
        rw there (ap values (after c p.0 kept (Some p)
        (found_entry (is_kept_as kept.name) c.entries p distinct there).0)
        ∙ put_first kept.name c.entries p kept distinct at_most there refl)

pub keep-numbers : (c : LruCache ℕ KeptAnswer) (number : ℕ) (kept : KeptAnswer)
    → IsDistinct nat_eq (keys_of c.entries)
    → AreBelow number c.entries
    → AreBelow (number + 1) (put_entries nat_eq c (number_for kept.name number c.entries) kept)
keep-numbers c number kept distinct below = by (find (λ p. is_kept_as kept.name p.1) c.entries) refl
  where
    by : (o : Option (ℕ × KeptAnswer))
        → find (λ p. is_kept_as kept.name p.1) c.entries ≡ o
        → AreBelow (number + 1) (put_entries nat_eq c (number_for kept.name number c.entries) kept)
    by None none =
        rw none (subst (AreBelow (number + 1))
        (sym (after c number kept None (absent number c.entries below))) (
          omega arith,
          below_more number (take (c.cap - 1) c.entries)
              (below_take number (c.cap - 1) c.entries below),
        ))
    by (Some p) there =
        let lt = below_found number (is_kept_as kept.name) c.entries p below there in
        rw there (subst (AreBelow (number + 1)) (sym (after c p.0 kept (Some p)
        (found_entry (is_kept_as kept.name) c.entries p distinct there).0)) (
          omega (arith, lt),
          below_more number (remove_entry (nat_eq p.0) c.entries)
              (below_removed number (nat_eq p.0) c.entries below),
        ))

-- ---- a read

live-found : (now : ℕ) (name : RequestName) (pairs : Pairs) (o : Option (ℕ × KeptAnswer))
    → find (λ p. is_kept_as name p.1) pairs ≡ o
    → live_kept now name (values pairs)
    ≡ option_and_then (λ (x : KeptAnswer). cond (is_young now x.moment) (Some x) None)
    (option_map (λ (p : ℕ × KeptAnswer). p.1) o)
unfolding live_kept
live-found now name pairs o is =
    ap (option_and_then (λ (x : KeptAnswer). cond (is_young now x.moment) (Some x) None))
    (find-values (is_kept_as name) pairs ∙ ap (option_map (λ (p : ℕ × KeptAnswer). p.1)) is)

pub live-none : (now : ℕ) (name : RequestName) (pairs : Pairs)
    → find (λ p. is_kept_as name p.1) pairs ≡ None
    → live_kept now name (values pairs) ≡ None
live-none now name pairs none = live-found now name pairs None none

pub live-old : (now : ℕ) (name : RequestName) (pairs : Pairs) (p : ℕ × KeptAnswer)
    → find (λ q. is_kept_as name q.1) pairs ≡ Some p
    → is_young now p.1.moment ≡ false
    → live_kept now name (values pairs) ≡ None
live-old now name pairs p there old = live-found now name pairs (Some p) there ∙ rw old refl

pub live-young : (now : ℕ) (name : RequestName) (pairs : Pairs) (p : ℕ × KeptAnswer)
    → find (λ q. is_kept_as name q.1) pairs ≡ Some p
    → is_young now p.1.moment ≡ true
    → live_kept now name (values pairs) ≡ Some p.1
live-young now name pairs p there young = live-found now name pairs (Some p) there ∙ rw young refl

-- the entry of a number
pub lookup-found : (test : ℕ → Bool) (pairs : Pairs) (p : ℕ × KeptAnswer)
    → lookup_entry test pairs ≡ Some p
    → lookup test pairs ≡ Some p.1
lookup-found test [] p there = absurd (none_some there)
lookup-found test (q ∷ qs) p there = by (test q.0) there (lookup-found test qs p)
  where
    by : (b : Bool)
        → cond b (Some q) (lookup_entry test qs) ≡ Some p
        → (lookup_entry test qs ≡ Some p → lookup test qs ≡ Some p.1)
        → cond b (Some q.1) (lookup test qs) ≡ Some p.1
    by true h more = ap (λ (r : ℕ × KeptAnswer). Some r.1) (some_same h)
    by false h more = more h

passes : (test : ℕ → Bool) (pairs : Pairs) (p : ℕ × KeptAnswer)
    → lookup_entry test pairs ≡ Some p
    → test p.0 ≡ true
passes test [] p there = absurd (none_some there)
passes test (q ∷ qs) p there = by (test q.0) refl there (passes test qs p)
  where
    by : (b : Bool)
        → test q.0 ≡ b
        → cond b (Some q) (lookup_entry test qs) ≡ Some p
        → (lookup_entry test qs ≡ Some p → test p.0 ≡ true)
        → test p.0 ≡ true
    by true t h more = subst (λ (r : ℕ × KeptAnswer). test r.0 ≡ true) (some_same h) t
    by false t h more = more h

-- once it was put first it is changed there
pub set-promoted : (test : ℕ → Bool) (pairs : Pairs) (p : ℕ × KeptAnswer) (x : KeptAnswer)
    → lookup_entry test pairs ≡ Some p
    → set_value test (promoted test pairs) x ≡ (p.0, x) ∷ remove_entry test pairs
set-promoted test pairs p x there = rw (there, passes test pairs p there) refl

-- what stands first under a number is found under it
pub lookup-first : (number : ℕ) (x : KeptAnswer) (pairs : Pairs)
    → lookup (nat_eq number) ((number, x) ∷ pairs) ≡ Some x
lookup-first number x pairs = rw (eqb-refl number) refl

-- ---- a copy

pub below-later : (m n : ℕ) (pairs : Pairs) → m ≤ n → AreBelow m pairs → AreBelow n pairs
below-later m n pairs h below =
    each_weaker (λ (p : ℕ × KeptAnswer). p.0 < m) (λ (p : ℕ × KeptAnswer). p.0 < n)
    (λ p lt. omega (arith, lt, h)) pairs below

-- what is put under a new number stands before the others, where there is room
pub put-new : (c : LruCache ℕ KeptAnswer) (number : ℕ) (x : KeptAnswer)
    → AreBelow number c.entries
    → c.cap ≡ 64
    → length c.entries < 64
    → put_entries nat_eq c number x ≡ (number, x) ∷ c.entries
put-new c number x below room few =
    after c number x None (absent number c.entries below)
    ∙ (ap (λ n. (number, x) ∷ take (n - 1) c.entries) room
    ∙ ap (λ ps. (number, x) ∷ ps) (take_all 63 c.entries (omega (arith, few))))

-- the last of what is left goes before what was copied
pub moved-last : (left rest copy : Pairs) (p : ℕ × KeptAnswer)
    → left ≡ rest ++ p ∷ []
    → values left ++ values copy ≡ values rest ++ (p.1 ∷ values copy)
moved-last left rest copy p is = ap (λ ps. values ps ++ values copy) is ∙ by rest
  where
    by : (ps : Pairs) → values (ps ++ p ∷ []) ++ values copy ≡ values ps ++ (p.1 ∷ values copy)
    by [] = refl
    by (q ∷ qs) = ap (λ xs. q.1 ∷ xs) (by qs)

pub length-last : (left rest : Pairs) (p : ℕ × KeptAnswer)
    → left ≡ rest ++ p ∷ []
    → length left ≡ length rest + 1
length-last left rest p is = ap length is ∙ by rest
  where
    by : (ps : Pairs) → length (ps ++ p ∷ []) ≡ length ps + 1
    by [] = refl
    by (q ∷ qs) = let more = by qs in omega (arith, more)
