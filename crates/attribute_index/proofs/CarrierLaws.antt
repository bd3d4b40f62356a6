-- Whom a cursor over an index tells: where an index has the entries of a record's attributes under
-- its number, and no others under it, the number comes exactly where the criterion matches one of
-- the attributes.
use Rattle.std.proofs.Common.{
  ◌≡◌,
  ℕ,
  Bool,
  true,
  false,
  cond,
  ◌&&◌,
  ◌||◌,
  List,
  [],
  ◌∷◌,
  map,
  filter,
  nat_eq,
  bytes_eq,
  refl,
  sym,
  ap,
  ◌∙◌,
  subst,
}
use Rattle.std.specs.List.{list_any, flat_map}
use Rattle.std.proofs.lemmas.List.Folds.{list_any-append}
use Rattle.std.proofs.lemmas.Bool.{and_parts, eqb-true, eq-eqb}
use Rattle.std.proofs.lemmas.Slice.Eq.{bytes_eq-Decides}
use Rattle.rd_base.specs.declared.attributes.Pair.{Pair}
use Rattle.rd_base.specs.declared.queries.Criterion.{Criterion}
use Rattle.record_model.specs.Options.{is_among}
use Rattle.record_model.specs.Matching.{
  list_names,
  parts_of,
  matches_value,
  matches_named,
  matches_pairs,
}
use Rattle.attribute_index.specs.Entries.{
  Entry,
  carriers_of,
  entries_of,
  entries_of_all,
  has_entry,
  has_number,
  is_carrier,
  values_of,
}
use Rattle.attribute_index.proofs.EntryLaws.{any_alike}

-- a number comes where an entry of it is a carrier
pub carried : (name pattern : List ℕ) (index : List Entry) (n : ℕ)
    → has_number (carriers_of name pattern index) n
    ≡ list_any (λ e. is_carrier name pattern e && nat_eq n e.number) index
unfolding carriers_of
carried name pattern [] n = refl
carried name pattern (x ∷ xs) n = by (is_carrier name pattern x) (carried name pattern xs n)
  where
    by : (t : Bool) → has_number (map (λ e. e.number) (filter (is_carrier name pattern) xs)) n
        ≡ list_any (λ e. is_carrier name pattern e && nat_eq n e.number) xs
        → has_number (map (λ e. e.number)
        (cond t (x ∷ filter (is_carrier name pattern) xs)
        (filter (is_carrier name pattern) xs))) n
        ≡ ((t && nat_eq n x.number)
        || list_any (λ e. is_carrier name pattern e && nat_eq n e.number) xs)
    by true more = ap (λ t. nat_eq n x.number || t) more
    by false more = more

-- ---- an attribute

carried_value : (t m : Bool) (number : ℕ) → ((t && m) && nat_eq number number) ≡ (t && m)
carried_value t m number = ap (λ s. (t && m) && s) (eq-eqb number number refl) ∙ and_all (t && m)
  where
    and_all : (b : Bool) → (b && true) ≡ b
    and_all true = refl
    and_all false = refl

carried_values : (name pattern own : List ℕ) (values : List (List ℕ)) (number : ℕ)
    → list_any (λ e. is_carrier name pattern e && nat_eq number e.number)
    (map (λ value. record { name = own; value = value; number = number }) values)
    ≡ (bytes_eq own name && list_any (matches_value pattern) values)
carried_values name pattern own [] number = and_none (bytes_eq own name)
  where
    and_none : (b : Bool) → false ≡ (b && false)
    and_none true = refl
    and_none false = refl
carried_values name pattern own (value ∷ values) number =
    ap (λ t. t || list_any (λ e. is_carrier name pattern e && nat_eq number e.number)
    (map (λ value. record { name = own; value = value; number = number }) values))
    (carried_value (bytes_eq own name) (matches_value pattern value) number)
    ∙ ap (λ t. (bytes_eq own name && matches_value pattern value) || t)
    (carried_values name pattern own values number)
    ∙ or_both (bytes_eq own name) (matches_value pattern value)
    (list_any (matches_value pattern) values)
  where
    or_both : (a b c : Bool) → ((a && b) || (a && c)) ≡ (a && (b || c))
    or_both true b c = refl
    or_both false b c = refl

-- the pattern matches a value of a name where it matches one of those by which it is found
matched_values : (name pattern value : List ℕ)
    → list_any (matches_value pattern) (values_of name value) ≡ matches_named name pattern value
unfolding values_of matches_named
matched_values name pattern value = by (is_among list_names name)
  where
    or_none : (b : Bool) → (b || false) ≡ b
    or_none true = refl
    or_none false = refl

    by : (t : Bool) → list_any (matches_value pattern) (cond t (parts_of value) (value ∷ []))
        ≡ cond t (list_any (matches_value pattern) (parts_of value)) (matches_value pattern value)
    by true = refl
    by false = or_none (matches_value pattern value)

-- an attribute gives a carrier where it is of the name and the pattern matches its value
pub carried_pair : (name pattern : List ℕ) (pair : Pair) (number : ℕ)
    → list_any (λ e. is_carrier name pattern e && nat_eq number e.number) (entries_of pair number)
    ≡ (bytes_eq pair.name name && matches_named name pattern pair.value)
unfolding entries_of
carried_pair name pattern pair number =
    carried_values name pattern pair.name (values_of pair.name pair.value) number
    ∙ by (bytes_eq pair.name name) refl
  where
    by : (t : Bool) → bytes_eq pair.name name ≡ t
        → (t && list_any (matches_value pattern) (values_of pair.name pair.value))
        ≡ (t && matches_named name pattern pair.value)
    by true same =
        subst (λ own. list_any (matches_value pattern) (values_of own pair.value)
        ≡ matches_named name pattern pair.value) (sym ((bytes_eq-Decides pair.name name).0 same))
        (matched_values name pattern pair.value)
    by false other = refl

-- ---- a record

-- the attributes of a record give a carrier where the criterion matches one of them
pub carried_pairs : (criterion : Criterion) (pairs : List Pair) (number : ℕ)
    → list_any (λ e. is_carrier criterion.name criterion.pattern e && nat_eq number e.number)
    (entries_of_all pairs number) ≡ matches_pairs criterion pairs
unfolding entries_of_all
carried_pairs criterion [] number = refl
carried_pairs criterion (pair ∷ pairs) number =
    let test : Entry → Bool = λ e. is_carrier criterion.name criterion.pattern e
    && nat_eq number e.number in
    list_any-append test (entries_of pair number)
    (flat_map (λ other. entries_of other number) pairs)
    ∙ ap (λ t. t || list_any test (flat_map (λ other. entries_of other number) pairs))
    (carried_pair criterion.name criterion.pattern pair number)
    ∙ ap (λ t. (bytes_eq pair.name criterion.name
    && matches_named criterion.name criterion.pattern pair.value) || t)
    (carried_pairs criterion pairs number)

-- the number of a record comes exactly where the criterion matches one of its attributes, if the
-- index has their entries under the number and no others
pub has_number-carriers : (index : List Entry) (criterion : Criterion) (pairs : List Pair)
    (number : ℕ) → ((e : Entry) → e.number ≡ number → has_entry index e
    ≡ has_entry (entries_of_all pairs number) e)
    → has_number (carriers_of criterion.name criterion.pattern index) number
    ≡ matches_pairs criterion pairs
has_number-carriers index criterion pairs number alike =
    carried criterion.name criterion.pattern index number
    ∙ any_alike (λ e. is_carrier criterion.name criterion.pattern e && nat_eq number e.number)
    index (entries_of_all pairs number) (λ e h. alike e (own e h))
    ∙ carried_pairs criterion pairs number
  where
    own : (e : Entry) → (is_carrier criterion.name criterion.pattern e && nat_eq number e.number)
        ≡ true → e.number ≡ number
    own e h =
        sym (eqb-true number e.number
        (and_parts (is_carrier criterion.name criterion.pattern e) (nat_eq number e.number) h).1)
