-- Query options: each a name and a value, split at its first equals sign (RFC 9176 sections 5 and
-- 6).
use Rattle.std.specs.Prelude.{
  ℕ,
  Bool,
  not,
  ◌&&◌,
  List,
  [],
  length,
  find,
  Option,
  option_map,
  unwrap_or,
  bytes_eq,
  nat_le,
}
use Rattle.std.specs.List.{list_any, list_all}
use Rattle.std.specs.Char.{is_ascii_digit}
use Rattle.std.specs.Str.Parse.{digits_value}
use Rattle.link_model.specs.Characters.{equals_sign, is_empty}
use Rattle.reference_model.specs.References.{before, after}

-- Returns the name of an option: what precedes its first equals sign, or all of it if it has none.
abbrev pub option_name : List ℕ → List ℕ
option_name query = before equals_sign query

-- Returns the value of an option: what follows its first equals sign, or nothing if it has none.
abbrev pub option_value : List ℕ → List ℕ
option_value query = unwrap_or (after equals_sign query) []

-- Returns whether the option has this name.
abbrev pub is_named : List ℕ → List ℕ → Bool
is_named name query = bytes_eq (option_name query) name

-- Returns whether an option with this name is among them.
abbrev pub has_named : List ℕ → List (List ℕ) → Bool
has_named name queries = list_any (is_named name) queries

-- Returns the value of the first option with this name, if there is one.
unfoldable pub value_named : List ℕ → List (List ℕ) → Option (List ℕ)
value_named name queries = option_map option_value (find (is_named name) queries)

-- Returns whether the text is among these.
abbrev pub is_among : List (List ℕ) → List ℕ → Bool
is_among texts text = list_any (bytes_eq text) texts

-- The most digits of a number in an option.
abbrev pub max_digits : ℕ
max_digits = 10

-- The greatest number of 32 bits.
abbrev pub max_number : ℕ
max_number = 4_294_967_295

-- Returns whether a text is 1 to 10 decimal digits of a number of 32 bits; it may begin with zeros.
abbrev pub is_number : List ℕ → Bool
is_number text =
    not (is_empty text)
    && nat_le (length text) max_digits
    && list_all is_ascii_digit text
    && nat_le (digits_value 10 text) max_number

-- Returns the number that the digits spell.
abbrev pub number_of : List ℕ → ℕ
number_of text = digits_value 10 text
