-- The stored form of an index. It has a row for each value of a name and each number of a record
-- that carries it.
use Rattle.std.specs.Prelude.{
  ◌≡◌,
  ℕ,
  Bool,
  false,
  not,
  ◌||◌,
  ◌&&◌,
  List,
  [],
  ◌∷◌,
  Option,
  Some,
  None,
  map,
  filter,
  nat_eq,
  bytes_eq,
  unwrap_or,
}
use lib.Pointwise.{pointwise}
use Rattle.std.specs.List.{AllByRecursion}
use Rattle.std.specs.declared.cmp.Ordering.{Ordering}
use Rattle.std.specs.Ordering.{nat_cmp, ordering_then}
use Rattle.std.specs.Cmp.Lexicographic.{slice_cmp}
use Rattle.record_model.specs.Matching.{before_wildcard, matches_value}
use Rattle.attribute_index.specs.declared.rows.Edit.{Edit}
use Rattle.attribute_index.specs.declared.rows.Edit.TheVariants.{Put, Take}
use Rattle.attribute_index.specs.declared.rows.Row.{Row}
use Rattle.attribute_index.specs.Entries.{Entry}

-- Returns the order of two names with values: by name, and for one name by the text of the value.
abbrev pub value_cmp : List ℕ × List ℕ → List ℕ × List ℕ → Ordering
value_cmp x y = ordering_then (slice_cmp nat_cmp x.0 y.0) (slice_cmp nat_cmp x.1 y.1)

abbrev pub is_same_value : List ℕ × List ℕ → List ℕ × List ℕ → Bool
is_same_value x y = pointwise nat_eq x.0 y.0 && pointwise nat_eq x.1 y.1

-- Returns the order of two rows: by value, and for one value by number.
abbrev pub row_cmp : Row → Row → Ordering
row_cmp x y = ordering_then (value_cmp x.value y.value) (nat_cmp x.number y.number)

-- Returns the entry of a row.
abbrev pub entry_of : Row → Entry
entry_of row = record { name = row.value.0; value = row.value.1; number = row.number }

-- Returns the entries of all rows, which are keys of a map.
abbrev pub entries_of_rows : List (Row × Unit {0}) → List Entry
entries_of_rows rows = map (λ row. entry_of row.0) rows

-- Returns the entries of these values of a name, for the record with this number.
abbrev pub entries_under_name : List ℕ → List (List ℕ) → ℕ → List Entry
entries_under_name name values number =
    map (λ value. record { name = name; value = value; number = number }) values

-- Returns where the values begin that a pattern of a name matches: at the text before its wildcard,
-- or else at the pattern.
abbrev pub first_wanted : List ℕ → List ℕ → List ℕ × List ℕ
first_wanted name pattern = (name, unwrap_or (before_wildcard pattern) pattern)

-- Returns the first row that may have that value.
abbrev pub first_row : List ℕ → List ℕ → Row
first_row name pattern = record { value = first_wanted name pattern; number = 0 }

-- Returns whether the value is of this name, and the pattern matches it.
abbrev pub is_wanted : List ℕ → List ℕ → List ℕ × List ℕ → Bool
is_wanted name pattern value = bytes_eq value.0 name && matches_value pattern value.1

-- Returns the numbers of the rows whose values are sought.
abbrev pub wanted_numbers : List ℕ → List ℕ → List (Row × Unit {0}) → List ℕ
wanted_numbers name pattern rows =
    map (λ row. row.0.number) (filter (λ row. is_wanted name pattern row.0.value) rows)

-- States that the rows that are sought come first: no such row follows one that is not sought.
unfoldable pub WantedFirst : List ℕ → List ℕ → List (Row × Unit {0}) → Type 0
WantedFirst name pattern [] = Unit {0}
WantedFirst name pattern (row ∷ rows) =
    (is_wanted name pattern row.0.value ≡ false
    → AllByRecursion (λ other. is_wanted name pattern other.0.value ≡ false) rows)
    × WantedFirst name pattern rows

-- Returns whether an entry exists after an edit, given whether it existed before and whether the
-- edit is about it.
abbrev pub is_after : Edit → Bool → Bool → Bool
is_after Put before edited = before || edited
is_after Take before edited = before && not edited

-- Returns the value that an edit of a row leaves at its key, or `None` if it removes the row.
abbrev pub after_edit : Edit → Option (Unit {0})
after_edit Put = Some tt
after_edit Take = None
