-- Slots of names: where one is put and taken, and which numbers stand under a hash.
use Rattle.std.proofs.Common.{
  ◌≡◌,
  ℕ,
  ◌<◌,
  ◌==◌,
  ◌&&◌,
  ◌||◌,
  nat_lt,
  nat_le,
  Bool,
  true,
  false,
  not,
  cond,
  List,
  [],
  ◌∷◌,
  map,
  filter,
  find,
  Some,
  None,
  refl,
  sym,
  ap,
  ◌∙◌,
  arith,
  eqb-true,
  ne_eqb,
}
use Rattle.std.specs.declared.cmp.Ordering.{Ordering}
use Rattle.std.specs.declared.cmp.Ordering.TheVariants.{Less, Equal, Greater}
use Rattle.std.specs.Ordering.{MatchOrdering, match_ordering, ordering_then, nat_cmp, is_eq, is_le}
use Rattle.std.specs.Cmp.{ranks}
use Rattle.std.specs.Map.{keys_of, remove_entry}
use Rattle.std.specs.BTreeMap.{insert_entry, is_at}
use Rattle.std.specs.BTreeMap.Range.{entries_from}
use Rattle.std.specs.List.{AllByRecursion}
use Rattle.std.proofs.lemmas.Bool.{true≢false, and_parts}
use Rattle.std.proofs.lemmas.Bool.Decides.{nat_tests}
use Rattle.rd_base.specs.declared.records.Name.{Name}
use Rattle.rd_base.specs.declared.records.Record.{Record}
use Rattle.rd_base.proofs.lemmas.Each.{each_weaker, each_filter, each_passes}
use Rattle.rd_base.proofs.lemmas.Filters.{filter_all, filter_none, find-filter}
use Rattle.rd_base.proofs.lemmas.Pairs.{PairsByRecursion, pairs_filter, pairs_weaker, pairs_known}
use Rattle.history_model.specs.Names.{is_same_name}
use Rattle.history_model.specs.Replay.{is_numbered, is_live_named, numbered}
use Rattle.history_model.proofs.NumberLaws.{IsBelow}
use Rattle.history_model.proofs.Acceptance.{is_same_name-Decides}
use Rattle.directory_core.specs.declared.names.NameSlot.{NameSlot}
use Rattle.directory_core.specs.LapseOrder.{stands_before, placed, in_order_of}
use Rattle.directory_core.specs.NameSlots.{
  hash_of,
  slot_of,
  slots_of,
  slot_before,
  same_slot,
  with_slot,
  without_slot,
  numbers_under,
  numbers_of_hash,
  if_live_named,
  record_or,
  first_live_named,
}
use Rattle.directory_core.proofs.InOrderLaws.{
  DifferFrom,
  IsOrdered,
  filter_in_order,
  in_order_same,
  in_order-IsOrdered,
}

-- ---- the order by which the keys of a map are compared

abbrev pub slot_cmp : NameSlot → NameSlot → Ordering
slot_cmp x y = ordering_then (nat_cmp x.hash y.hash) (nat_cmp x.number y.number)

ranked_numbers : (a m b n : ℕ) (r s : Ordering)
    → MatchOrdering r (a < b) (a ≡ b) (b < a)
    → MatchOrdering s (m < n) (m ≡ n) (n < m)
    → MatchOrdering (ordering_then r s) ((nat_lt a b || ((a == b) && nat_lt m n)) ≡ true)
    (((nat_lt a b || ((a == b) && nat_lt m n)) ≡ false) × (((a == b) && (m == n)) ≡ true))
    (((nat_lt a b || ((a == b) && nat_lt m n)) ≡ false) × (((a == b) && (m == n)) ≡ false))
ranked_numbers a m b n Less s p q = grind (arith, nat_tests)
ranked_numbers a m b n Equal Less p q = grind (arith, nat_tests)
ranked_numbers a m b n Equal Equal p q = (grind (arith, nat_tests), grind (arith, nat_tests))
ranked_numbers a m b n Equal Greater p q = (grind (arith, nat_tests), grind (arith, nat_tests))
ranked_numbers a m b n Greater s p q = (grind (arith, nat_tests), grind (arith, nat_tests))

ranked : (x y : NameSlot)
    → MatchOrdering (slot_cmp x y) (slot_before x y ≡ true)
    ((slot_before x y ≡ false) × (same_slot x y ≡ true))
    ((slot_before x y ≡ false) × (same_slot x y ≡ false))
ranked x y =
    ranked_numbers x.hash x.number y.hash y.number (nat_cmp x.hash y.hash)
    (nat_cmp x.number y.number) (ranks x.hash y.hash) (ranks x.number y.number)

differ_numbers : (a m b n : ℕ)
    → (nat_lt a b || ((a == b) && nat_lt m n)) ≡ true
    → ((a == b) && (m == n)) ≡ false
differ_numbers a m b n p = grind (arith, nat_tests)

slot : ℕ → ℕ → NameSlot
slot hash number = record { hash = hash; number = number }

from_numbers : (h k n : ℕ) (r s : Ordering)
    → MatchOrdering r (h < k) (h ≡ k) (k < h)
    → MatchOrdering s (0 < n) (0 ≡ n) (n < 0)
    → is_le (ordering_then r s) ≡ nat_le h k
from_numbers h k n Less s p q = let test : nat_le h k ≡ true = grind (arith, nat_tests) in sym test
from_numbers h k n Equal Less p q =
    let test : nat_le h k ≡ true = grind (arith, nat_tests) in sym test
from_numbers h k n Equal Equal p q =
    let test : nat_le h k ≡ true = grind (arith, nat_tests) in sym test
from_numbers h k n Equal Greater p q = absurd (omega arith)
from_numbers h k n Greater s p q =
    let test : nat_le h k ≡ false = grind (arith, nat_tests) in sym test

-- ---- slots as keys

module _ {X : Type 0} where
  pub keys-insert : (v : X) (s : NameSlot) (es : List (NameSlot × X))
      → keys_of (insert_entry slot_cmp es s v) ≡ with_slot s (keys_of es)
  unfolding with_slot
  keys-insert v s [] = refl
  keys-insert v s (e ∷ es) = by (slot_cmp s e.0) (ranked s e.0) (keys-insert v s es)
    where
      by : (o : Ordering)
          → MatchOrdering o (slot_before s e.0 ≡ true)
          ((slot_before s e.0 ≡ false) × (same_slot s e.0 ≡ true))
          ((slot_before s e.0 ≡ false) × (same_slot s e.0 ≡ false))
          → keys_of (insert_entry slot_cmp es s v) ≡ with_slot s (keys_of es)
          → keys_of (match_ordering o ((s, v) ∷ e ∷ es) ((e.0, v) ∷ es)
          (e ∷ insert_entry slot_cmp es s v))
          ≡ cond (slot_before s e.0) (s ∷ e.0 ∷ keys_of es)
          (cond (same_slot s e.0) (e.0 ∷ keys_of es) (e.0 ∷ with_slot s (keys_of es)))
      by Less h more = rw h refl
      by Equal h more = let low = h.0 in let same = h.1 in rw (low, same) refl
      by Greater h more =
          let low = h.0 in let same = h.1 in rw (low, same) (ap (λ rest. e.0 ∷ rest) more)

  pub keys-remove : (s : NameSlot) (es : List (NameSlot × X))
      → keys_of (remove_entry (is_at (slot_cmp s)) es) ≡ without_slot s (keys_of es)
  unfolding without_slot
  keys-remove s [] = refl
  keys-remove s (e ∷ es) = by (slot_cmp s e.0) (ranked s e.0) (keys-remove s es)
    where
      by : (o : Ordering)
          → MatchOrdering o (slot_before s e.0 ≡ true)
          ((slot_before s e.0 ≡ false) × (same_slot s e.0 ≡ true))
          ((slot_before s e.0 ≡ false) × (same_slot s e.0 ≡ false))
          → keys_of (remove_entry (is_at (slot_cmp s)) es) ≡ without_slot s (keys_of es)
          → keys_of (cond (is_eq o) es (e ∷ remove_entry (is_at (slot_cmp s)) es))
          ≡ cond (same_slot s e.0) (keys_of es) (e.0 ∷ without_slot s (keys_of es))
      by Less h more =
          let other : same_slot s e.0 ≡ false =
          differ_numbers s.hash s.number e.0.hash e.0.number h in
          rw other (ap (λ rest. e.0 ∷ rest) more)
      by Equal h more = let same = h.1 in rw same refl
      by Greater h more = let same = h.1 in rw same (ap (λ rest. e.0 ∷ rest) more)

  pub keys-from : (h : ℕ) (es : List (NameSlot × X))
      → keys_of (entries_from (slot_cmp (record { hash = h; number = 0 })) es)
      ≡ filter (λ s. nat_le h s.hash) (keys_of es)
  keys-from h [] = refl
  keys-from h (e ∷ es) =
      let test : is_le (slot_cmp (record { hash = h; number = 0 }) e.0) ≡ nat_le h e.0.hash
      = from_numbers h e.0.hash e.0.number (nat_cmp h e.0.hash) (nat_cmp 0 e.0.number)
      (ranks h e.0.hash) (ranks 0 e.0.number) in
      rw test (by (nat_le h e.0.hash) (keys-from h es))
    where
      by : (b : Bool)
          → keys_of (entries_from (slot_cmp (record { hash = h; number = 0 })) es)
          ≡ filter (λ s. nat_le h s.hash) (keys_of es)
          → keys_of (cond b (e ∷ entries_from (slot_cmp (record { hash = h; number = 0 })) es)
          (entries_from (slot_cmp (record { hash = h; number = 0 })) es))
          ≡ cond b (e.0 ∷ filter (λ s. nat_le h s.hash) (keys_of es))
          (filter (λ s. nat_le h s.hash) (keys_of es))
      by true more = ap (λ rest. e.0 ∷ rest) more
      by false more = more

-- ---- numbers under a hash

pub under_first : (hash : ℕ) (s : NameSlot) (slots : List NameSlot)
    → (s.hash == hash) ≡ true
    → numbers_under hash (s ∷ slots) ≡ s.number ∷ numbers_under hash slots
unfolding numbers_under
under_first hash s slots same = rw same refl

pub under_other : (hash : ℕ) (s : NameSlot) (slots : List NameSlot)
    → (s.hash == hash) ≡ false
    → numbers_under hash (s ∷ slots) ≡ []
unfolding numbers_under
under_other hash s slots other = rw other refl

pub under_none : (hash : ℕ) → numbers_under hash [] ≡ []
unfolding numbers_under
under_none hash = refl

-- ---- slots of records

abbrev pub key : Record → ℕ
key r = hash_of r.name

no_slot : (a m b n : ℕ) → (m ≡ n → ⊥) → ((a == b) && (m == n)) ≡ false
no_slot a m b n differ = grind (arith, nat_tests)

-- a slot is put where its record is placed
pub with_slot-placed : (r : Record) (xs : List Record)
    → AllByRecursion (DifferFrom r) xs
    → with_slot (slot_of r) (map slot_of xs) ≡ map slot_of (placed key r xs)
unfolding with_slot placed
with_slot-placed r [] differ = refl
with_slot-placed r (x ∷ xs) differ =
    let other : same_slot (slot_of r) (slot_of x) ≡ false =
    no_slot (key r) r.number (key x) x.number differ.0 in
    rw other (by (stands_before key r x) (with_slot-placed r xs differ.1))
  where
    by : (b : Bool) → with_slot (slot_of r) (map slot_of xs) ≡ map slot_of (placed key r xs)
        → cond b (slot_of r ∷ slot_of x ∷ map slot_of xs)
        (slot_of x ∷ with_slot (slot_of r) (map slot_of xs))
        ≡ map slot_of (cond b (r ∷ x ∷ xs) (x ∷ placed key r xs))
    by true more = refl
    by false more = ap (λ rest. slot_of x ∷ rest) more

same_numbers : (a b m n : ℕ) → a ≡ b → m ≡ n → ((a == b) && (m == n)) ≡ true
same_numbers a b m n p q = grind (arith, nat_tests)

-- a slot is taken with the record of its number
pub without_slot-filter : (r : Record) (xs : List Record)
    → PairsByRecursion DifferFrom xs
    → AllByRecursion (λ x. x.number ≡ r.number → x.name ≡ r.name) xs
    → without_slot (slot_of r) (map slot_of xs)
    ≡ map slot_of (filter (λ x. not (is_numbered r.number x)) xs)
unfolding without_slot
without_slot-filter r [] differ named = refl
without_slot-filter r (x ∷ xs) differ named =
    by (is_numbered r.number x) refl (without_slot-filter r xs differ.1 named.1)
  where
    by : (n : Bool)
        → is_numbered r.number x ≡ n
        → without_slot (slot_of r) (map slot_of xs)
        ≡ map slot_of (filter (λ x. not (is_numbered r.number x)) xs)
        → cond (same_slot (slot_of r) (slot_of x)) (map slot_of xs)
        (slot_of x ∷ without_slot (slot_of r) (map slot_of xs))
        ≡ map slot_of (cond (not n) (x ∷ filter (λ x. not (is_numbered r.number x)) xs)
        (filter (λ x. not (is_numbered r.number x)) xs))
    by true e more =
        let here : x.number ≡ r.number = eqb-true x.number r.number e in
        let same : same_slot (slot_of r) (slot_of x) ≡ true =
        same_numbers (key r) (key x) r.number x.number (ap hash_of (sym (named.0 here)))
        (sym here) in
        rw same (ap (map slot_of) (sym (filter_all (λ x. not (is_numbered r.number x)) xs
        (each_weaker (DifferFrom x) (λ y. not (is_numbered r.number y) ≡ true)
        (λ y other. let fails :
        is_numbered r.number y ≡ false =
        ne_eqb y.number r.number (λ same. other (here ∙ sym same)) in rw fails refl) xs
        differ.0))))
    by false e more =
        let other : same_slot (slot_of r) (slot_of x) ≡ false =
        no_slot (key r) r.number (key x) x.number
        (λ same. true≢false (sym (let again : (x.number == r.number) ≡ true = grind (
          arith,
          nat_tests,
        ) in again) ∙ e)) in
        rw other (ap (λ rest. slot_of x ∷ rest) more)

-- ---- which numbers stand under a hash

-- those behind a slot of a later hash are of later hashes
later_hash : (h : ℕ) (x y : Record)
    → stands_before key x y ≡ true
    → nat_le h (key x) ≡ true
    → (key x == h) ≡ false
    → (key y == h) ≡ false
later_hash h x y = numbers h (key x) x.number (key y) y.number
  where
    numbers : (h a m b n : ℕ)
        → (nat_lt a b || ((a == b) && nat_lt m n)) ≡ true
        → nat_le h a ≡ true
        → (a == h) ≡ false
        → (b == h) ≡ false
    numbers h a m b n p q r = grind (arith, nat_tests)

pub numbers-ordered : (h : ℕ) (xs : List Record)
    → IsOrdered key xs
    → numbers_of_hash h (map slot_of xs) ≡ map (λ r. r.number) (filter (λ r. key r == h) xs)
unfolding numbers_of_hash numbers_under
numbers-ordered h [] up = refl
numbers-ordered h (x ∷ xs) up =
    by (nat_le h (key x)) (key x == h) refl refl (numbers-ordered h xs up.1)
  where
    too_low : (h a : ℕ) → nat_le h a ≡ false → (a == h) ≡ true → ⊥
    too_low h a p q = let clash : true ≡ false = grind (arith, nat_tests) in true≢false clash

    by : (l s : Bool)
        → nat_le h (key x) ≡ l
        → (key x == h) ≡ s
        → numbers_of_hash h (map slot_of xs) ≡ map (λ r. r.number) (filter (λ r. key r == h) xs)
        → numbers_under h (cond l (slot_of x ∷ filter (λ s. nat_le h s.hash) (map slot_of xs))
        (filter (λ s. nat_le h s.hash) (map slot_of xs)))
        ≡ map (λ r. r.number)
        (cond s (x ∷ filter (λ r. key r == h) xs) (filter (λ r. key r == h) xs))
    by true true e f more = rw f (ap (λ rest. x.number ∷ rest) more)
    by true false e f more =
        rw f (ap (map (λ (r : Record). r.number)) (sym (filter_none (λ r. key r == h) xs
        (each_weaker (λ y. stands_before key x y ≡ true) (λ y. (key y == h) ≡ false)
        (λ y after. later_hash h x y after e f) xs up.0))))
    by false true e f more = absurd (too_low h (key x) e f)
    by false false e f more = more

same_hash_before : (h : ℕ) (x y : Record)
    → (key x == h) ≡ true
    → (key y == h) ≡ true
    → x.number < y.number
    → stands_before key x y ≡ true
same_hash_before h x y = numbers h (key x) x.number (key y) y.number
  where
    numbers : (h a m b n : ℕ)
        → (a == h) ≡ true
        → (b == h) ≡ true
        → m < n
        → (nat_lt a b || ((a == b) && nat_lt m n)) ≡ true
    numbers h a m b n p q r = grind (arith, nat_tests)

pub below_differ : (rs : List Record) → PairsByRecursion IsBelow rs → PairsByRecursion DifferFrom rs
below_differ rs up =
    pairs_weaker IsBelow DifferFrom
    (λ r other below same. let low : r.number < other.number = below in omega arith) rs up

-- the numbers under a hash are those of the records whose names have it, in ascending number
pub numbers-slots : (h : ℕ) (rs : List Record)
    → PairsByRecursion IsBelow rs
    → numbers_of_hash h (slots_of rs) ≡ map (λ r. r.number) (filter (λ r. key r == h) rs)
numbers-slots h rs up =
    let differ = below_differ rs up in
    numbers-ordered h (in_order_of key rs) (in_order-IsOrdered key rs differ)
    ∙ ap (map (λ (r : Record). r.number)) (filter_in_order key (λ r. key r == h) rs differ
    ∙ in_order_same key (filter (λ r. key r == h) rs)
    (pairs_known (λ r. (key r == h) ≡ true) IsBelow
    (λ r other. stands_before key r other ≡ true)
    (λ x y p q below. same_hash_before h x y p q below)
    (filter (λ r. key r == h) rs) (each_passes (λ r. key r == h) rs)
    (pairs_filter IsBelow (λ r. key r == h) rs up)))

-- ---- the record of a name

-- a record is found by its number
pub numbered_here : (rs : List Record) (r : Record)
    → AllByRecursion (λ x. x.number ≡ r.number → x ≡ r) rs
    → numbered r.number (r ∷ rs) ≡ Some r
numbered_here rs r same =
    let here : (r.number == r.number) ≡ true = grind (arith, nat_tests) in rw here refl

-- of records that are found by their numbers, the first that has a name and is live
pub first-found : (records : List Record) (name : Name) (moment : ℕ) (xs : List Record)
    → AllByRecursion (λ x. numbered x.number records ≡ Some x) xs
    → first_live_named records name moment (map (λ r. r.number) xs)
    ≡ find (is_live_named name moment) xs
unfolding first_live_named
first-found records name moment [] found = refl
first-found records name moment (x ∷ xs) found =
    rw found.0 (by (is_live_named name moment x) (first-found records name moment xs found.1))
  where
    by : (b : Bool)
        → first_live_named records name moment (map (λ (r : Record). r.number) xs)
        ≡ find (is_live_named name moment) xs
        → record_or (cond b (Some x) None)
        (first_live_named records name moment (map (λ (r : Record). r.number) xs))
        ≡ cond b (Some x) (find (is_live_named name moment) xs)
    by true more = refl
    by false more = more

-- each record of ascending ones is found by its number
pub all_numbered : (rs : List Record)
    → PairsByRecursion IsBelow rs
    → AllByRecursion (λ x. numbered x.number rs ≡ Some x) rs
all_numbered [] up = tt
all_numbered (r ∷ rs) up = (
  let here : (r.number == r.number) ≡ true = grind (arith, nat_tests) in rw here refl,
  by rs up.0 (all_numbered rs up.1),
)
  where
    by : (xs : List Record)
        → AllByRecursion (IsBelow r) xs
        → AllByRecursion (λ x. numbered x.number rs ≡ Some x) xs
        → AllByRecursion (λ x. numbered x.number (r ∷ rs) ≡ Some x) xs
    by [] below found = tt
    by (x ∷ xs) below found = (
      let low :
          r.number < x.number =
          below.0 in let other : (r.number == x.number) ≡ false =
          ne_eqb r.number x.number (λ same. omega arith) in rw other found.0,
      by xs
          below.1 found.1,
    )

-- the first that is live under a name, of the numbers that stand under its hash
pub first-slots : (rs : List Record) (name : Name) (moment : ℕ)
    → PairsByRecursion IsBelow rs
    → first_live_named rs name moment (numbers_of_hash (hash_of name) (slots_of rs))
    ≡ find (is_live_named name moment) rs
first-slots rs name moment up =
    let h = hash_of name in
    ap (first_live_named rs name moment) (numbers-slots h rs up)
    ∙ first-found rs name moment (filter (λ r. key r == h) rs)
    (each_filter (λ x. numbered x.number rs ≡ Some x) (λ r. key r == h) rs (all_numbered rs up))
    ∙ find-filter (is_live_named name moment) (λ r. key r == h)
    (λ r live. same r (and_parts _ _ live).0) rs
  where
    numbers : (a b : ℕ) → a ≡ b → (a == b) ≡ true
    numbers a b p = grind (arith, nat_tests)

    same : (r : Record) → is_same_name r.name name ≡ true → (key r == hash_of name) ≡ true
    same r e = numbers (key r) (hash_of name) (ap hash_of ((is_same_name-Decides r.name name).0 e))

-- ---- the first of numbers

pub first_here : (records : List Record) (name : Name) (moment n : ℕ) (numbers : List ℕ)
    (r : Record)
    → Some r ≡ if_live_named name moment (numbered n records)
    → first_live_named records name moment (n ∷ numbers) ≡ Some r
unfolding first_live_named
first_here records name moment n numbers r found = rw (← found) refl

pub first_later : (records : List Record) (name : Name) (moment n : ℕ) (numbers : List ℕ)
    → None ≡ if_live_named name moment (numbered n records)
    → first_live_named records name moment (n ∷ numbers)
    ≡ first_live_named records name moment numbers
unfolding first_live_named
first_later records name moment n numbers none = rw (← none) refl

pub first_none : (records : List Record) (name : Name) (moment : ℕ)
    → first_live_named records name moment [] ≡ None
unfolding first_live_named
first_none records name moment = refl
