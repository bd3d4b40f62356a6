-- The entries of an index of attributes. An entry says that a record carries a value of a name.
-- Values of rel, rev, rt and if are lists (RFC 6690 section 2), and have an entry for each part.
use Rattle.std.specs.Prelude.{
  ◌≡◌,
  ℕ,
  Bool,
  ◌==◌,
  ◌&&◌,
  List,
  [],
  ◌∷◌,
  map,
  filter,
  bytes_eq,
  if◌then◌else◌,
}
use Rattle.std.specs.List.{list_any, flat_map, AllByRecursion}
use Rattle.std.specs.declared.cmp.Ordering.{Ordering}
use Rattle.std.specs.declared.cmp.Ordering.TheVariants.{Less}
use Rattle.std.specs.Ordering.{nat_cmp, ordering_then}
use Rattle.std.specs.Cmp.Lexicographic.{slice_cmp}
use Rattle.rd_base.specs.declared.attributes.Pair.{Pair}
use Rattle.record_model.specs.Options.{is_among}
use Rattle.record_model.specs.Matching.{list_names, parts_of, matches_value}

-- An entry: the record with this number carries this value of this name.
pub record Entry : Type 0 where
  pub name : List ℕ
  pub value : List ℕ
  pub number : ℕ

-- Returns the values by which an attribute is found: the parts of its value if values of its name
-- are lists, or else its value.
unfoldable pub values_of : List ℕ → List ℕ → List (List ℕ)
values_of name value = if is_among list_names name then parts_of value else value ∷ []

-- Returns the entries of an attribute of the record with this number.
unfoldable pub entries_of : Pair → ℕ → List Entry
entries_of pair number =
    map (λ value. record { name = pair.name; value = value; number = number })
    (values_of pair.name pair.value)

-- Returns the entries of all attributes of the record with this number.
unfoldable pub entries_of_all : List Pair → ℕ → List Entry
entries_of_all pairs number = flat_map (λ pair. entries_of pair number) pairs

-- Returns whether both are the same entry.
abbrev pub is_same : Entry → Entry → Bool
is_same x y = bytes_eq x.name y.name && (bytes_eq x.value y.value && (x.number == y.number))

-- Returns whether the entry is in the index.
abbrev pub has_entry : List Entry → Entry → Bool
has_entry index e = list_any (is_same e) index

-- Returns whether the number is among these.
abbrev pub has_number : List ℕ → ℕ → Bool
has_number numbers n = list_any (λ m. n == m) numbers

-- Returns the order of two entries: by their names, then by their values, and then by their
-- numbers.
abbrev pub entry_cmp : Entry → Entry → Ordering
entry_cmp x y =
    ordering_then (slice_cmp nat_cmp x.name y.name)
    (ordering_then (slice_cmp nat_cmp x.value y.value) (nat_cmp x.number y.number))

-- States that each entry is less than all that follow it. So the index is sorted and has no entry
-- twice.
unfoldable pub IsAscending : List Entry → Type 0
IsAscending [] = Unit {0}
IsAscending (x ∷ xs) = AllByRecursion (λ y. entry_cmp x y ≡ Less) xs × IsAscending xs

-- Returns whether the entry is of this name, and the pattern matches its value.
abbrev pub is_carrier : List ℕ → List ℕ → Entry → Bool
is_carrier name pattern e = bytes_eq e.name name && matches_value pattern e.value

-- Returns the numbers of the entries of this name whose values the pattern matches, in the order of
-- the entries.
unfoldable pub carriers_of : List ℕ → List ℕ → List Entry → List ℕ
carriers_of name pattern index = map (λ e. e.number) (filter (is_carrier name pattern) index)
