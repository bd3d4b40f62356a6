-- The values that a pattern matches stand together: where they begin, and that none stands behind
-- one that it does not match.
use Rattle.std.proofs.Common.{
  ◌≡◌,
  ℕ,
  ◌<◌,
  Bool,
  true,
  false,
  cond,
  List,
  [],
  ◌∷◌,
  Option,
  Some,
  None,
  map,
  filter,
  take,
  length,
  nat_eq,
  nat_cmp,
  bytes_eq,
  refl,
  sym,
  ap,
  ◌∙◌,
  subst,
  unwrap_or,
  arith,
}
use lib.Pointwise.{pointwise}
use Rattle.std.specs.declared.cmp.Ordering.{Ordering}
use Rattle.std.specs.declared.cmp.Ordering.TheVariants.{Less, Equal, Greater}
use Rattle.std.specs.Ordering.{is_le, is_eq, ordering_then, MatchOrdering}
use Rattle.std.specs.Cmp.Lexicographic.{slice_cmp}
use Rattle.std.specs.Cmp.{tied_itself, ranks, nat_cmp_total}
use Rattle.std.specs.List.{starts_with, AllByRecursion}
use Rattle.std.specs.BTreeMap.Range.{entries_from}
use Rattle.std.proofs.lemmas.Cmp.{nat_list_cmp_total}
use Rattle.std.proofs.lemmas.Bool.{and_parts, and_from, eqb-true, eq-eqb, false≢true}
use Rattle.std.proofs.lemmas.Slice.Eq.{bytes_eq-Decides}
use Rattle.rd_base.proofs.lemmas.Each.{each_weaker, each_filter}
use Rattle.rd_base.proofs.lemmas.Filters.{filter_stronger, filter_none}
use Rattle.record_model.specs.Matching.{before_wildcard, is_value_of, matches_value}
use Rattle.chunk_map.specs.Sorted as sorted
use Rattle.attribute_index.specs.declared.rows.Row.{Row}
use Rattle.attribute_index.specs.Rows.{
  WantedFirst,
  value_cmp,
  row_cmp,
  is_wanted,
  wanted_numbers,
  first_wanted,
  first_row,
}

-- ---- texts that begin with a front

-- a text that begins with the front does not stand before it
begins_behind : (front xs : List ℕ) → starts_with nat_eq xs front ≡ true
    → is_le (slice_cmp nat_cmp front xs) ≡ true
begins_behind [] [] h = refl
begins_behind [] (x ∷ xs) h = refl
begins_behind (c ∷ front) [] h = absurd (false≢true h)
begins_behind (c ∷ front) (x ∷ xs) h =
    let parts = and_parts (nat_eq c x) (pointwise nat_eq front (take (length front) xs)) h in
    subst (λ (y : ℕ). is_le (ordering_then (nat_cmp c y) (slice_cmp nat_cmp front xs)) ≡ true)
    (eqb-true c x parts.0)
    (ap (λ r. is_le (ordering_then r (slice_cmp nat_cmp front xs))) (number_itself c)
    ∙ begins_behind front xs parts.1)
  where
    number_itself : (n : ℕ) → nat_cmp n n ≡ Equal
    number_itself n = tied_itself nat_cmp_total n

-- three numbers in order, of which the first and the last are equal
between_numbers : (c x : ℕ) (r s : Ordering) (t u : Ordering)
    → MatchOrdering r (c < x) (c ≡ x) (x < c) → MatchOrdering s (x < c) (x ≡ c) (c < x)
    → is_le (ordering_then r t) ≡ true → is_le (ordering_then s u) ≡ true
    → (c ≡ x) × ((is_le t ≡ true) × (is_le u ≡ true))
between_numbers c x Less Less t u p q h k = absurd (omega arith)
between_numbers c x Less Equal t u p q h k = absurd (omega arith)
between_numbers c x Less Greater t u p q h k = absurd (false≢true k)
between_numbers c x Equal Less t u p q h k = absurd (omega arith)
between_numbers c x Equal Equal t u p q h k = (p, (h, k))
between_numbers c x Equal Greater t u p q h k = absurd (omega arith)
between_numbers c x Greater s t u p q h k = absurd (false≢true h)

-- what stands between a front and a text that begins with it begins with it too
begins_between : (front xs ys : List ℕ) → is_le (slice_cmp nat_cmp front xs) ≡ true
    → is_le (slice_cmp nat_cmp xs ys) ≡ true → starts_with nat_eq ys front ≡ true
    → starts_with nat_eq xs front ≡ true
begins_between [] xs ys h k begins = refl
begins_between (c ∷ front) [] ys h k begins = absurd (false≢true h)
begins_between (c ∷ front) (x ∷ xs) [] h k begins = absurd (false≢true begins)
begins_between (c ∷ front) (x ∷ xs) (y ∷ ys) h k begins =
    let parts = and_parts (nat_eq c y) (pointwise nat_eq front (take (length front) ys)) begins in
    let back : is_le (ordering_then (nat_cmp x c) (slice_cmp nat_cmp xs ys)) ≡ true =
    subst (λ (z : ℕ). is_le (ordering_then (nat_cmp x z) (slice_cmp nat_cmp xs ys)) ≡ true)
    (sym (eqb-true c y parts.0)) k in
    let all = between_numbers c x (nat_cmp c x) (nat_cmp x c) (slice_cmp nat_cmp front xs)
    (slice_cmp nat_cmp xs ys) (ranks c x) (ranks x c) h back in
    and_from (nat_eq c x) (pointwise nat_eq front (take (length front) xs)) (eq-eqb c x all.0)
    (begins_between front xs ys all.1.0 all.1.1 parts.1)

-- a text that stands between two equal ones is equal to them
equal_between : (xs ys : List ℕ) → is_le (slice_cmp nat_cmp xs ys) ≡ true
    → is_le (slice_cmp nat_cmp ys xs) ≡ true → xs ≡ ys
equal_between [] [] h k = refl
equal_between [] (y ∷ ys) h k = absurd (false≢true k)
equal_between (x ∷ xs) [] h k = absurd (false≢true h)
equal_between (x ∷ xs) (y ∷ ys) h k =
    let all = between_numbers x y (nat_cmp x y) (nat_cmp y x) (slice_cmp nat_cmp xs ys)
    (slice_cmp nat_cmp ys xs) (ranks x y) (ranks y x) h k in
    ap (λ (z : ℕ). z ∷ xs) all.0 ∙ ap (λ zs. y ∷ zs) (equal_between xs ys all.1.0 all.1.1)

-- ---- values that a pattern matches

-- where the values of a pattern begin: with what stands before its wildcard, or with the pattern
-- itself
matched_behind : (wildcard : Option (List ℕ)) (pattern value : List ℕ)
    → is_value_of wildcard pattern value ≡ true
    → is_le (slice_cmp nat_cmp (unwrap_or wildcard pattern) value) ≡ true
matched_behind (Some front) pattern value h = begins_behind front value h
matched_behind None pattern value h =
    let same = (bytes_eq-Decides value pattern).0 h in
    subst (λ (xs : List ℕ). is_le (slice_cmp nat_cmp xs value) ≡ true) same
    (ap is_le (tied_itself nat_list_cmp_total value))

matched_between : (wildcard : Option (List ℕ)) (pattern xs ys : List ℕ)
    → is_le (slice_cmp nat_cmp (unwrap_or wildcard pattern) xs) ≡ true
    → is_le (slice_cmp nat_cmp xs ys) ≡ true → is_value_of wildcard pattern ys ≡ true
    → is_value_of wildcard pattern xs ≡ true
matched_between (Some front) pattern xs ys h k matches = begins_between front xs ys h k matches
matched_between None pattern xs ys h k matches =
    let same = (bytes_eq-Decides ys pattern).0 matches in
    let back : is_le (slice_cmp nat_cmp xs pattern) ≡ true =
    subst (λ (zs : List ℕ). is_le (slice_cmp nat_cmp xs zs) ≡ true) same k in
    (bytes_eq-Decides xs pattern).1 (equal_between xs pattern back h)

-- an order by names first: the names do not descend, and where they are equal the values do not
by_name : (r s : Ordering) → is_le (ordering_then r s) ≡ true → is_le r ≡ true
by_name Less s h = refl
by_name Equal s h = refl
by_name Greater s h = h

by_value : (r s : Ordering) → r ≡ Equal → is_le (ordering_then r s) ≡ true → is_le s ≡ true
by_value Less s e h = absurd (false≢true (ap is_eq e))
by_value Equal s e h = h
by_value Greater s e h = absurd (false≢true (ap is_eq e))

less_le : (r : Ordering) → r ≡ Less → is_le r ≡ true
less_le r e = ap is_le e

same_names : (xs ys : List ℕ) → xs ≡ ys → slice_cmp nat_cmp xs ys ≡ Equal
same_names xs ys e =
    subst (λ (zs : List ℕ). slice_cmp nat_cmp xs zs ≡ Equal) e (tied_itself nat_list_cmp_total xs)

-- a wanted value does not stand before the first that may be
pub wanted_behind : (name pattern : List ℕ) (value : List ℕ × List ℕ)
    → is_wanted name pattern value ≡ true
    → is_le (value_cmp (first_wanted name pattern) value) ≡ true
unfolding matches_value
wanted_behind name pattern value h =
    let parts = and_parts (bytes_eq value.0 name) (matches_value pattern value.1) h in
    let names = same_names name value.0 (sym ((bytes_eq-Decides value.0 name).0 parts.0)) in
    ap (λ r. is_le (ordering_then r
    (slice_cmp nat_cmp (unwrap_or (before_wildcard pattern) pattern) value.1))) names
    ∙ matched_behind (before_wildcard pattern) pattern value.1 parts.1

-- what stands between the first that may be wanted and a wanted value is wanted
pub wanted_between : (name pattern : List ℕ) (value other : List ℕ × List ℕ)
    → is_le (value_cmp (first_wanted name pattern) value) ≡ true
    → is_le (value_cmp value other) ≡ true → is_wanted name pattern other ≡ true
    → is_wanted name pattern value ≡ true
unfolding matches_value
wanted_between name pattern value other h below matches =
    let parts = and_parts (bytes_eq other.0 name) (matches_value pattern other.1) matches in
    let other_name = (bytes_eq-Decides other.0 name).0 parts.0 in
    let front = unwrap_or (before_wildcard pattern) pattern in
    let up : is_le (slice_cmp nat_cmp name value.0) ≡ true =
    by_name (slice_cmp nat_cmp name value.0) (slice_cmp nat_cmp front value.1) h in
    let down : is_le (slice_cmp nat_cmp value.0 name) ≡ true =
    subst (λ (zs : List ℕ). is_le (slice_cmp nat_cmp value.0 zs) ≡ true) other_name
    (by_name (slice_cmp nat_cmp value.0 other.0) (slice_cmp nat_cmp value.1 other.1) below) in
    let names : name ≡ value.0 = equal_between name value.0 up down in
    and_from (bytes_eq value.0 name) (matches_value pattern value.1)
    ((bytes_eq-Decides value.0 name).1 (sym names))
    (matched_between (before_wildcard pattern) pattern value.1 other.1
    (by_value (slice_cmp nat_cmp name value.0) (slice_cmp nat_cmp front value.1)
    (same_names name value.0 names) h)
    (by_value (slice_cmp nat_cmp value.0 other.0) (slice_cmp nat_cmp value.1 other.1)
    (same_names value.0 other.0 (sym names ∙ sym other_name)) below)
    parts.1)

-- ---- rows

-- a wanted row does not stand before the first that may be
row_behind : (name pattern : List ℕ) (row : Row) → is_wanted name pattern row.value ≡ true
    → is_le (row_cmp (first_row name pattern) row) ≡ true
row_behind name pattern row h =
    by (value_cmp (first_wanted name pattern) row.value) (nat_cmp 0 row.number)
    (wanted_behind name pattern row.value h) (least row.number (nat_cmp 0 row.number)
    (ranks 0 row.number))
  where
    least : (n : ℕ) (r : Ordering) → MatchOrdering r (0 < n) (0 ≡ n) (n < 0) → is_le r ≡ true
    least n Less k = refl
    least n Equal k = refl
    least n Greater k = absurd (omega arith)

    by : (r s : Ordering) → is_le r ≡ true → is_le s ≡ true → is_le (ordering_then r s) ≡ true
    by Less s k l = refl
    by Equal s k l = l
    by Greater s k l = k

-- the rows from the first that may be wanted on have the same wanted numbers
pub wanted_from : (name pattern : List ℕ) (rows : List (Row × Unit {0}))
    → wanted_numbers name pattern (entries_from (row_cmp (first_row name pattern)) rows)
    ≡ wanted_numbers name pattern rows
wanted_from name pattern rows =
    ap (λ some. map (λ (row : Row × Unit {0}). row.0.number) some)
    (filter_stronger (λ row. is_wanted name pattern row.0.value)
    (λ row. is_le (row_cmp (first_row name pattern) row.0))
    (λ row h. row_behind name pattern row.0 h) rows)

none_behind : (name pattern : List ℕ) (row : Row × Unit {0}) (rows : List (Row × Unit {0}))
    → is_le (row_cmp (first_row name pattern) row.0) ≡ true
    → AllByRecursion (λ other. row_cmp row.0 other.0 ≡ Less) rows
    → is_wanted name pattern row.0.value ≡ false
    → AllByRecursion (λ other. is_wanted name pattern other.0.value ≡ false) rows
none_behind name pattern row rows h up not_wanted =
    each_weaker (λ other. row_cmp row.0 other.0 ≡ Less)
    (λ other. is_wanted name pattern other.0.value ≡ false)
    (λ other less. by other less (is_wanted name pattern other.0.value) refl) rows up
  where
    by : (other : Row × Unit {0}) → row_cmp row.0 other.0 ≡ Less → (t : Bool)
        → is_wanted name pattern other.0.value ≡ t → is_wanted name pattern other.0.value ≡ false
    by other less true wanted =
        absurd (false≢true (sym not_wanted
        ∙ wanted_between name pattern row.0.value other.0.value
        (by_name (value_cmp (first_wanted name pattern) row.0.value) (nat_cmp 0 row.0.number) h)
        (by_name (value_cmp row.0.value other.0.value) (nat_cmp row.0.number other.0.number)
        (less_le (row_cmp row.0 other.0) less)) wanted))
    by other less false wanted = wanted

-- in the rows from the first that may be wanted on the wanted ones stand in front
pub wanted_first : (name pattern : List ℕ) (rows : List (Row × Unit {0}))
    → sorted.IsAscending row_cmp rows
    → WantedFirst name pattern (entries_from (row_cmp (first_row name pattern)) rows)
unfolding WantedFirst sorted.IsAscending
wanted_first name pattern [] up = tt
wanted_first name pattern (row ∷ rows) up =
    by (is_le (row_cmp (first_row name pattern) row.0)) refl (wanted_first name pattern rows up.1)
  where
    by : (t : Bool) → is_le (row_cmp (first_row name pattern) row.0) ≡ t
        → WantedFirst name pattern (entries_from (row_cmp (first_row name pattern)) rows)
        → WantedFirst name pattern
        (cond t (row ∷ entries_from (row_cmp (first_row name pattern)) rows)
        (entries_from (row_cmp (first_row name pattern)) rows))
    by true h more = (
      λ not_wanted. none_behind name pattern row
          (entries_from (row_cmp (first_row name pattern)) rows) h
          (each_filter (λ other. row_cmp row.0 other.0 ≡ Less)
          (λ other. is_le (row_cmp (first_row name pattern) other.0)) rows up.0) not_wanted,
      more,
    )
    by false h more = more

-- ---- one row after another

pub wanted_rest : (name pattern : List ℕ) (row : Row × Unit {0}) (rows : List (Row × Unit {0}))
    → WantedFirst name pattern (row ∷ rows) → WantedFirst name pattern rows
unfolding WantedFirst
wanted_rest name pattern row rows first = first.1

nothing : (name pattern : List ℕ) (rows : List (Row × Unit {0}))
    → AllByRecursion (λ other. is_wanted name pattern other.0.value ≡ false) rows
    → wanted_numbers name pattern rows ≡ []
nothing name pattern rows none =
    ap (λ some. map (λ (row : Row × Unit {0}). row.0.number) some)
    (filter_none (λ row. is_wanted name pattern row.0.value) rows none)

-- where a row is not wanted, no number is left
pub wanted_end : (name pattern : List ℕ) (row : Row × Unit {0}) (rows : List (Row × Unit {0}))
    → WantedFirst name pattern (row ∷ rows) → is_wanted name pattern row.0.value ≡ false
    → (wanted_numbers name pattern (row ∷ rows) ≡ []) × (wanted_numbers name pattern rows ≡ [])
unfolding WantedFirst
wanted_end name pattern row rows first not_wanted =
    let none = first.0 not_wanted in
    (nothing name pattern (row ∷ rows) (not_wanted, none), nothing name pattern rows none)

-- where it is, its number is the first
pub wanted_next : (name pattern : List ℕ) (row : Row × Unit {0}) (rows : List (Row × Unit {0}))
    → is_wanted name pattern row.0.value ≡ true
    → wanted_numbers name pattern (row ∷ rows)
    ≡ row.0.number ∷ wanted_numbers name pattern rows
wanted_next name pattern row rows wanted =
    ap (λ (t : Bool). map (λ (other : Row × Unit {0}). other.0.number)
    (cond t (row ∷ filter (λ (other : Row × Unit {0}). is_wanted name pattern other.0.value) rows)
    (filter (λ (other : Row × Unit {0}). is_wanted name pattern other.0.value) rows))) wanted
