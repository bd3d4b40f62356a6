-- What an index has: its entries are told by a test, and two sorted indexes that have the same
-- entries are equal.
use Rattle.std.proofs.Common.{
  ◌≡◌,
  ℕ,
  Bool,
  true,
  false,
  ◌&&◌,
  ◌||◌,
  List,
  [],
  ◌∷◌,
  ◌++◌,
  map,
  nat_eq,
  bytes_eq,
  refl,
  sym,
  ap,
  ◌∙◌,
  subst,
}
use Rattle.std.specs.declared.cmp.Ordering.{Ordering}
use Rattle.std.specs.declared.cmp.Ordering.TheVariants.{Less, Equal, Greater}
use Rattle.std.specs.Ordering.{is_eq, ordering_then, ordering_reverse, nat_cmp}
use Rattle.std.specs.Cmp.{IsTotalOrder, tied_then, unsigned_ties, nat_cmp_total}
use Rattle.std.specs.Cmp.Lexicographic.{slice_cmp}
use Rattle.std.specs.List.{list_any, flat_map, AllByRecursion}
use Rattle.std.proofs.lemmas.Cmp.{nat_list_cmp_total, then_total, on_total}
use Rattle.std.proofs.lemmas.List.Folds.{list_any-append}
use Rattle.std.proofs.lemmas.Map.Text.{is_eq-slice_cmp}
use Rattle.std.proofs.lemmas.Bool.{
  false≢true,
  and_parts,
  and_from,
  and_right,
  eqb-true,
  eq-eqb,
  ne_eqb,
}
use Rattle.std.proofs.lemmas.Slice.Eq.{bytes_eq-Decides}
use Rattle.rd_base.specs.declared.attributes.Pair.{Pair}
use Rattle.attribute_index.specs.Entries.{
  Entry,
  IsAscending,
  entry_cmp,
  has_entry,
  is_same,
  entries_of,
  entries_of_all,
  values_of,
}

-- ---- one entry

-- entries with equal parts are equal, and an entry has its own parts
abbrev made : List ℕ → List ℕ → ℕ → Entry
made name value number = record { name = name; value = value; number = number }

pub same_is : (x y : Entry) → is_same x y ≡ true → x ≡ y
same_is x y h =
    let names = and_parts (bytes_eq x.name y.name)
    (bytes_eq x.value y.value && nat_eq x.number y.number) h in
    let rest = and_parts (bytes_eq x.value y.value) (nat_eq x.number y.number) names.1 in
    ap (λ n. made n x.value x.number) ((bytes_eq-Decides x.name y.name).0 names.0)
    ∙ ap (λ v. made y.name v x.number) ((bytes_eq-Decides x.value y.value).0 rest.0)
    ∙ ap (λ n. made y.name y.value n) (eqb-true x.number y.number rest.1)

pub same_itself : (x : Entry) → is_same x x ≡ true
same_itself x =
    and_from (bytes_eq x.name x.name) (bytes_eq x.value x.value && nat_eq x.number x.number)
    ((bytes_eq-Decides x.name x.name).1 refl)
    (and_from (bytes_eq x.value x.value) (nat_eq x.number x.number)
    ((bytes_eq-Decides x.value x.value).1 refl) (eq-eqb x.number x.number refl))

-- ---- the entries of an index

-- of two indexes after each other
pub has_entry-append : (xs ys : List Entry) (e : Entry)
    → has_entry (xs ++ ys) e ≡ (has_entry xs e || has_entry ys e)
has_entry-append xs ys e = list_any-append (is_same e) xs ys

-- what all attributes of a record give is what its first gives, and what the others give
pub has_entry-all : (pair : Pair) (pairs : List Pair) (number : ℕ) (e : Entry)
    → has_entry (entries_of_all (pair ∷ pairs) number) e
    ≡ (has_entry (entries_of pair number) e || has_entry (entries_of_all pairs number) e)
unfolding entries_of_all
has_entry-all pair pairs number e =
    has_entry-append (entries_of pair number) (flat_map (λ other. entries_of other number) pairs) e

pub has_entry-all_append : (pairs more : List Pair) (number : ℕ) (e : Entry)
    → has_entry (entries_of_all (pairs ++ more) number) e
    ≡ (has_entry (entries_of_all pairs number) e || has_entry (entries_of_all more number) e)
unfolding entries_of_all
has_entry-all_append [] more number e = refl
has_entry-all_append (pair ∷ pairs) more number e =
    has_entry-all pair (pairs ++ more) number e
    ∙ ap (λ t. has_entry (entries_of pair number) e || t)
    (has_entry-all_append pairs more number e)
    ∙ or_same (has_entry (entries_of pair number) e) (has_entry (entries_of_all pairs number) e)
    (has_entry (entries_of_all more number) e)
    ∙ ap (λ t. t || has_entry (entries_of_all more number) e)
    (sym (has_entry-all pair pairs number e))
  where
    or_same : (a b c : Bool) → (a || (b || c)) ≡ ((a || b) || c)
    or_same true b c = refl
    or_same false b c = refl

-- an attribute has entries under its record's number alone
pub has_entry-other : (pair : Pair) (number : ℕ) (e : Entry) → (e.number ≡ number → ⊥)
    → has_entry (entries_of pair number) e ≡ false
unfolding entries_of
has_entry-other pair number e other = over (values_of pair.name pair.value)
  where
    over : (values : List (List ℕ))
        → has_entry (map (λ value. record { name = pair.name; value = value; number = number })
        values) e ≡ false
    over [] = refl
    over (value ∷ values) =
        ap (λ t. t || has_entry
        (map (λ value. record { name = pair.name; value = value; number = number }) values) e)
        (and_right (bytes_eq e.name pair.name) (bytes_eq e.value value && nat_eq e.number number)
        (and_right (bytes_eq e.value value) (nat_eq e.number number)
        (ne_eqb e.number number other)))
        ∙ over values

-- and so has a record
pub has_entry-all_other : (pairs : List Pair) (number : ℕ) (e : Entry) → (e.number ≡ number → ⊥)
    → has_entry (entries_of_all pairs number) e ≡ false
unfolding entries_of_all
has_entry-all_other [] number e other = refl
has_entry-all_other (pair ∷ pairs) number e other =
    has_entry-all pair pairs number e
    ∙ ap (λ t. t || has_entry (entries_of_all pairs number) e)
    (has_entry-other pair number e other) ∙ has_entry-all_other pairs number e other

-- where one entry passes a test, one that the index has does
pub any_entry : (test : Entry → Bool) (xs : List Entry) → list_any test xs ≡ true
    → (e : Entry) × ((has_entry xs e ≡ true) × (test e ≡ true))
any_entry test [] h = absurd (false≢true h)
any_entry test (x ∷ xs) h = by (test x) refl h (any_entry test xs)
  where
    later : (e : Entry) → has_entry xs e ≡ true → has_entry (x ∷ xs) e ≡ true
    later e more = ap (λ t. is_same e x || t) more ∙ or_true (is_same e x)
      where
        or_true : (t : Bool) → (t || true) ≡ true
        or_true true = refl
        or_true false = refl

    by : (t : Bool) → test x ≡ t → (t || list_any test xs) ≡ true
        → (list_any test xs ≡ true → (e : Entry) × ((has_entry xs e ≡ true) × (test e ≡ true)))
        → (e : Entry) × ((has_entry (x ∷ xs) e ≡ true) × (test e ≡ true))
    by true passes h more = (x, (ap (λ t. t || has_entry xs x) (same_itself x), passes))
    by false fails h more = let (e, (there, passes)) = more h in (e, (later e there, passes))

-- where an entry that the index has passes a test, one entry does
pub entry_any : (test : Entry → Bool) (xs : List Entry) (e : Entry) → has_entry xs e ≡ true
    → test e ≡ true → list_any test xs ≡ true
entry_any test [] e there passes = absurd (false≢true there)
entry_any test (x ∷ xs) e there passes =
    by (is_same e x) refl there (λ more. entry_any test xs e more passes)
  where
    by : (t : Bool) → is_same e x ≡ t → (t || has_entry xs e) ≡ true
        → (has_entry xs e ≡ true → list_any test xs ≡ true) → (test x || list_any test xs) ≡ true
    by true same h more =
        ap (λ t. t || list_any test xs) (subst (λ z. test z ≡ true) (same_is e x same) passes)
    by false other h more = ap (λ t. test x || t) (more h) ∙ or_true (test x)
      where
        or_true : (t : Bool) → (t || true) ≡ true
        or_true true = refl
        or_true false = refl

-- a test that only entries pass which both have or both lack passes in both or in neither
pub any_alike : (test : Entry → Bool) (xs ys : List Entry)
    → ((e : Entry) → test e ≡ true → has_entry xs e ≡ has_entry ys e)
    → list_any test xs ≡ list_any test ys
any_alike test xs ys alike = by (list_any test xs) (list_any test ys) refl refl
  where
    over : (us vs : List Entry) → ((e : Entry) → test e ≡ true → has_entry us e ≡ has_entry vs e)
        → list_any test us ≡ true → list_any test vs ≡ true
    over us vs same h =
        let (e, (there, passes)) = any_entry test us h in
        entry_any test vs e (sym (same e passes) ∙ there) passes

    by : (s t : Bool) → list_any test xs ≡ s → list_any test ys ≡ t → s ≡ t
    by true true a b = refl
    by true false a b = absurd (false≢true (sym b ∙ over xs ys alike a))
    by false true a b =
        absurd (false≢true (sym a ∙ over ys xs (λ e passes. sym (alike e passes)) b))
    by false false a b = refl

-- ---- a sorted index is told by its entries

pub entry_total : IsTotalOrder entry_cmp
entry_total =
    then_total (on_total (λ e. e.name) nat_list_cmp_total)
    (then_total (on_total (λ e. e.value) nat_list_cmp_total)
    (on_total (λ e. e.number) nat_cmp_total))

-- entries that compare equal are one
same_by_cmp : (x y : Entry) → is_eq (entry_cmp x y) ≡ is_same x y
same_by_cmp x y =
    sym (tied_then (slice_cmp nat_cmp x.name y.name)
    (ordering_then (slice_cmp nat_cmp x.value y.value) (nat_cmp x.number y.number)))
    ∙ ap (λ t. t && is_eq
    (ordering_then (slice_cmp nat_cmp x.value y.value) (nat_cmp x.number y.number)))
    (is_eq-slice_cmp x.name y.name)
    ∙ ap (λ t. bytes_eq x.name y.name && t)
    (sym (tied_then (slice_cmp nat_cmp x.value y.value) (nat_cmp x.number y.number)))
    ∙ ap (λ t. bytes_eq x.name y.name && (t && is_eq (nat_cmp x.number y.number)))
    (is_eq-slice_cmp x.value y.value)
    ∙ ap (λ t. bytes_eq x.name y.name && (bytes_eq x.value y.value && t))
    (sym (unsigned_ties x.number y.number))

-- an entry that stands before all of these is none of them
absent : (x : Entry) (xs : List Entry) → AllByRecursion (λ y. entry_cmp x y ≡ Less) xs
    → has_entry xs x ≡ false
absent x [] up = refl
absent x (y ∷ ys) up =
    ap (λ t. t || has_entry ys x) (sym (same_by_cmp x y) ∙ ap is_eq up.0) ∙ absent x ys up.1

before_all : (x y : Entry) (ys : List Entry) → entry_cmp x y ≡ Less
    → AllByRecursion (λ z. entry_cmp y z ≡ Less) ys → AllByRecursion (λ z. entry_cmp x z ≡ Less) ys
before_all x y [] less up = tt
before_all x y (z ∷ zs) less up = (entry_total.trans x y z less up.0, before_all x y zs less up.1)

-- the first of one sorted index, where the other begins with a later entry, is not in the other
pub same_entries : (xs ys : List Entry) → IsAscending xs → IsAscending ys
    → ((e : Entry) → has_entry xs e ≡ has_entry ys e) → xs ≡ ys
unfolding IsAscending
same_entries [] [] up up' same = refl
same_entries [] (y ∷ ys) up up' same =
    absurd (false≢true (same y ∙ ap (λ t. t || has_entry ys y) (same_itself y)))
same_entries (x ∷ xs) [] up up' same =
    absurd (false≢true (sym (same x) ∙ ap (λ t. t || has_entry xs x) (same_itself x)))
same_entries (x ∷ xs) (y ∷ ys) up up' same =
    by (entry_cmp x y) refl (λ h. same_entries xs ys up.1 up'.1 h)
  where
    here : (u v : Entry) (us vs : List Entry) → entry_cmp u v ≡ Less
        → AllByRecursion (λ z. entry_cmp v z ≡ Less) vs
        → has_entry (u ∷ us) u ≡ has_entry (v ∷ vs) u → ⊥
    here u v us vs less behind h =
        false≢true (sym (absent u (v ∷ vs) (less, before_all u v vs less behind)) ∙ sym h
        ∙ ap (λ t. t || has_entry us u) (same_itself u))

    rest : x ≡ y → (e : Entry) → has_entry xs e ≡ has_entry ys e
    rest is e =
        at (is_same e x) refl
        (subst (λ z. has_entry (x ∷ xs) e ≡ has_entry (z ∷ ys) e) (sym is) (same e))
      where
        at : (t : Bool) → is_same e x ≡ t
            → (is_same e x || has_entry xs e) ≡ (is_same e x || has_entry ys e)
            → has_entry xs e ≡ has_entry ys e
        at true one h =
            let it = sym (same_is e x one) in
            subst (λ z. has_entry xs z ≡ false) it (absent x xs up.0)
            ∙ sym (subst (λ z. has_entry ys z ≡ false) it
            (absent x ys (subst (λ z. AllByRecursion (λ v. entry_cmp z v ≡ Less) ys) (sym is)
            up'.0)))
        at false other h =
            sym (ap (λ t. t || has_entry xs e) other) ∙ h ∙ ap (λ t. t || has_entry ys e) other

    by : (r : Ordering) → entry_cmp x y ≡ r
        → (((e : Entry) → has_entry xs e ≡ has_entry ys e) → xs ≡ ys) → x ∷ xs ≡ y ∷ ys
    by Less less more = absurd (here x y xs ys less up'.0 (same x))
    by Equal equal more =
        let is = same_is x y (sym (same_by_cmp x y) ∙ ap is_eq equal) in
        ap (λ z. z ∷ xs) is ∙ ap (λ zs. y ∷ zs) (more (rest is))
    by Greater greater more =
        absurd (here y x ys xs (entry_total.antisymm y x ∙ ap ordering_reverse greater) up.0
        (sym (same y)))
