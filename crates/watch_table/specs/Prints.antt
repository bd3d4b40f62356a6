-- Prints of texts: numbers which mostly show that no text of a registration has the prefix that a
-- criterion seeks.
use Rattle.std.specs.Prelude.{
  ◌≡◌,
  ℕ,
  ◌+◌,
  ◌*◌,
  ◌/◌,
  ◌%◌,
  ◌^◌,
  ◌==◌,
  bit_or,
  Bool,
  false,
  List,
  [],
  ◌∷◌,
  ◌++◌,
  map,
  flat_map,
  take,
  Option,
  Some,
  None,
  unwrap_or,
  slice_index_or,
  slice_set,
  if◌then◌else◌,
}
use Rattle.std.specs.Int.{bit_at}
use Rattle.std.specs.List.{list_all}
use Rattle.rd_base.specs.declared.attributes.Pair.{Pair}
use Rattle.rd_base.specs.declared.queries.Criterion.{Criterion}
use Rattle.rd_base.specs.declared.queries.Query.{Query}
use Rattle.rd_base.specs.declared.records.Item.{Item}
use Rattle.rd_base.specs.declared.records.Record.{Record}
use Rattle.record_model.specs.Matching.{
  before_wildcard,
  endpoint_pairs,
  list_names,
  location,
  parts_of,
}
use Rattle.record_model.specs.Options.{is_among}
use Rattle.history_model.specs.ChangedParts.{is_other_part}
use Rattle.watch_table.specs.WatchedQueries.{Watched}

-- ---- prints

-- Returns the print of a text with one more octet.
unfoldable pub print_after : ℕ → ℕ → ℕ
print_after print octet = (print * 37 % 2 ^ 32 + octet) % 2 ^ 32

-- Returns the print of a text that continues a text with this print.
abbrev pub print_from : ℕ → List ℕ → ℕ
print_from print [] = print
print_from print (c ∷ cs) = print_from (print_after print c) cs

abbrev pub print_of : List ℕ → ℕ
print_of text = print_from 0 text

-- Returns the prefix of each value that a pattern matches: the text before its wildcard, or else
-- the pattern.
abbrev pub front_of : List ℕ → List ℕ
front_of pattern = unwrap_or (before_wildcard pattern) pattern

abbrev pub front_print : Criterion → ℕ
front_print criterion = print_of (front_of criterion.pattern)

-- The number of criteria of a query whose prints are stored.
abbrev pub most_prints : ℕ
most_prints = 4

-- Returns the prints of the prefixes that the first criteria seek.
abbrev pub prints_of : List Criterion → List ℕ
prints_of criteria = map front_print (take most_prints criteria)

-- ---- notes of prints

-- Returns the index, among 128 numbers, of the one that has the bit of a print. `bit_of` returns
-- which of its 64 bits that is.
unfoldable pub word_of : ℕ → ℕ
word_of print = print / 64 % 128

unfoldable pub bit_of : ℕ → ℕ
bit_of print = print % 64

-- Returns whether the bit of a print is set. Other prints have the same bit, so it may be set for a
-- print that was never noted.
abbrev pub is_noted : List ℕ → ℕ → Bool
is_noted notes print = bit_at (slice_index_or notes (word_of print) 0) (bit_of print) == 1

-- Returns the notes with the bit of a print set.
abbrev pub noted : List ℕ → ℕ → List ℕ
noted notes print =
    slice_set notes (word_of print)
    (bit_or (slice_index_or notes (word_of print) 0) (1 * 2 ^ bit_of print % 2 ^ 64))

-- Returns the notes with the prints of all prefixes of a text that continues a text with this
-- print.
abbrev pub fronts_noted : List ℕ → ℕ → List ℕ → List ℕ
fronts_noted notes print [] = notes
fronts_noted notes print (c ∷ cs) =
    fronts_noted (noted notes (print_after print c)) (print_after print c) cs

-- Returns the notes with the prints of all prefixes of a text, from the empty one on.
abbrev pub text_noted : List ℕ → List ℕ → List ℕ
text_noted notes text = fronts_noted (noted notes 0) 0 text

abbrev pub texts_noted : List ℕ → List (List ℕ) → List ℕ
texts_noted notes [] = notes
texts_noted notes (text ∷ texts) = texts_noted (text_noted notes text) texts

-- ---- the texts of a registration

-- Returns the texts that a pattern is matched against for a value of a name (RFC 6690 section 2).
-- These are the parts of the value if the values of the name are lists, or else the value.
unfoldable pub value_texts : List ℕ → List ℕ → List (List ℕ)
value_texts name value = if is_among list_names name then parts_of value else value ∷ []

abbrev pub pair_texts : Pair → List (List ℕ)
pair_texts pair = value_texts pair.name pair.value

abbrev pub pairs_texts : List Pair → List (List ℕ)
pairs_texts pairs = flat_map pair_texts pairs

abbrev pub text_if_any : Option (List ℕ) → List (List ℕ)
text_if_any None = []
text_if_any (Some text) = text ∷ []

-- Returns the texts of a link: its target, its anchor if it has one, and its attributes.
abbrev pub link_texts : Item → List (List ℕ)
link_texts item = item.target ∷ (text_if_any item.anchor ++ pairs_texts item.pairs)

-- Returns the texts of an endpoint: its location, and its attributes.
abbrev pub endpoint_texts : Record → List (List ℕ)
endpoint_texts r = location r.number ∷ pairs_texts (endpoint_pairs r)

abbrev pub record_texts : Record → List (List ℕ)
record_texts r = endpoint_texts r ++ flat_map link_texts r.items

abbrev pub texts_if_any : Option Record → List (List ℕ)
texts_if_any None = []
texts_if_any (Some r) = record_texts r

-- ---- queries by their prints

-- Returns whether the prints are all noted.
abbrev pub all_noted : List ℕ → List ℕ → Bool
all_noted notes prints = list_all (is_noted notes) prints

-- Returns whether a query may match texts whose prints are noted: the prints of the prefixes that
-- its first criteria seek are all noted.
abbrev pub may_match : List ℕ → Query → Bool
may_match notes query = all_noted notes (prints_of query.criteria)

-- States that a change of a registration leaves the lines of each query that the notes do not
-- admit.
abbrev pub TellOf : List ℕ → Option Record → Option Record → Type 0
TellOf notes old new =
    (query : Query) → may_match notes query ≡ false → is_other_part query old new ≡ false

-- Returns whether the query of an entry may match such texts. Returns false if there is no entry.
abbrev pub may_match_in : List ℕ → Option (ℕ × Watched) → Bool
may_match_in notes None = false
may_match_in notes (Some e) = may_match notes e.1.query
