-- Numbers that order most names and values before their texts are compared.
use Rattle.std.specs.Prelude.{
  ◌≡◌,
  ℕ,
  zero,
  suc,
  ◌+◌,
  ◌*◌,
  ◌/◌,
  ◌%◌,
  ◌<◌,
  List,
  [],
  ◌∷◌,
  ◌++◌,
  map,
  drop,
}
use Rattle.std.specs.declared.cmp.Ordering.{Ordering}
use Rattle.std.specs.Ordering.{nat_cmp, ordering_then}
use Rattle.std.specs.List.{AllByRecursion}
use Rattle.attribute_index.specs.declared.abbreviations.Abbreviation.{Abbreviation}
use Rattle.attribute_index.specs.declared.abbreviations.Last.{Last}
use Rattle.attribute_index.specs.declared.abbreviations.Last.TheVariants.{Own, Raised}

-- Returns a name and a value as one list of symbols. The symbol of an octet is its number plus one,
-- and 0 separates the two texts.
abbrev pub symbols_of : List ℕ × List ℕ → List ℕ
symbols_of value = map (λ octet. octet + 1) value.0 ++ (0 ∷ map (λ octet. octet + 1) value.1)

-- Returns the symbols with the last one raised by one. This is the least list after all those that
-- begin with these symbols.
abbrev pub raised : List ℕ → List ℕ
raised [] = []
raised (symbol ∷ []) = (symbol + 1) ∷ []
raised (symbol ∷ next ∷ symbols) = symbol ∷ raised (next ∷ symbols)

-- Returns the symbols of a name and a value: the last one as it is, or raised by one.
abbrev pub symbols_to : Last → List ℕ × List ℕ → List ℕ
symbols_to Own value = symbols_of value
symbols_to Raised value = raised (symbols_of value)

-- Returns the digit of the first symbol: the symbol plus one, or 0 if there is none.
abbrev pub digit_of : List ℕ → ℕ
digit_of [] = 0
digit_of (symbol ∷ symbols) = symbol + 1

-- Returns the number that this many first symbols spell in base 256. The first symbol is the most
-- significant digit.
unfoldable pub spelled : ℕ → List ℕ → ℕ
spelled zero symbols = 0
spelled (suc n) symbols = spelled n symbols * 256 + digit_of (drop n symbols)

-- States that each is an octet of UTF-8: none is above 244 (RFC 3629 section 3).
abbrev pub AreOctets : List ℕ → Type 0
AreOctets text = AllByRecursion (λ octet. octet < 245) text

-- An abbreviation whose numbers spell the first 24 of these symbols.
pub record Spells (abbreviation : Abbreviation) (symbols : List ℕ) : Type 0 where
  pub first : abbreviation.first ≡ spelled 8 symbols
  pub second : abbreviation.second ≡ spelled 8 (drop 8 symbols)
  pub third : abbreviation.third ≡ spelled 8 (drop 16 symbols)

-- An abbreviation of this name and value: its numbers spell their first 24 symbols.
pub record IsAbbreviation (abbreviation : Abbreviation) (value : List ℕ × List ℕ) : Type 0 where
  pub spells : Spells abbreviation (symbols_of value)
  pub name_octets : AreOctets value.0
  pub value_octets : AreOctets value.1

-- Returns the order of two abbreviations: by their first numbers, then by their second, and then by
-- their third.
abbrev pub abbreviation_cmp : Abbreviation → Abbreviation → Ordering
abbreviation_cmp f g =
    ordering_then (nat_cmp f.first g.first)
    (ordering_then (nat_cmp f.second g.second) (nat_cmp f.third g.third))

-- Returns this many digits of a number in base 256, the most significant first.
unfoldable pub digits_in : ℕ → ℕ → List ℕ
digits_in zero number = []
digits_in (suc n) number = digits_in n (number / 256) ++ (number % 256 ∷ [])

-- Returns the octets of the digits before the first one below 2. The digit 2 stands for the octet
-- 0, and the digit 1 ends a name.
abbrev pub octets_in : List ℕ → List ℕ
octets_in [] = []
octets_in (zero ∷ digits) = []
octets_in (suc zero ∷ digits) = []
octets_in (suc (suc octet) ∷ digits) = octet ∷ octets_in digits

-- Returns the digits after the first 1.
abbrev pub digits_behind : List ℕ → List ℕ
digits_behind [] = []
digits_behind (zero ∷ digits) = digits_behind digits
digits_behind (suc zero ∷ digits) = digits
digits_behind (suc (suc octet) ∷ digits) = digits_behind digits

-- Returns the digits of an abbreviation's numbers.
abbrev pub digits_of : Abbreviation → List ℕ
digits_of abbreviation =
    digits_in 8 abbreviation.first
    ++ (digits_in 8 abbreviation.second ++ digits_in 8 abbreviation.third)

-- Returns the name and the value whose first 24 symbols the numbers of the abbreviation spell.
abbrev pub told_by : Abbreviation → List ℕ × List ℕ
told_by abbreviation = (
  octets_in (digits_of abbreviation),
  octets_in (digits_behind (digits_of abbreviation)),
)
