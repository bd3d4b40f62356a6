-- The abbreviations of the values that a pattern matches.
use Rattle.std.specs.Prelude.{ℕ, Bool, ◌&&◌, List, Option, Some, None}
use Rattle.std.specs.Ordering.{is_eq, is_le, is_lt}
use Rattle.record_model.specs.Matching.{before_wildcard}
use Rattle.attribute_index.specs.declared.abbreviations.Abbreviation.{Abbreviation}
use Rattle.attribute_index.specs.declared.abbreviations.Last.TheVariants.{Raised}
use Rattle.attribute_index.specs.declared.bounds.Bounds.{Bounds}
use Rattle.attribute_index.specs.Abbreviations.{
  IsAbbreviation,
  Spells,
  abbreviation_cmp,
  symbols_to,
}
use Rattle.attribute_index.specs.Rows.{first_wanted}

-- Returns whether the abbreviation is in a range. Without an end, the range has the first
-- abbreviation alone. Otherwise it begins with the first, and stops before the end.
abbrev pub is_in : Abbreviation → Option Abbreviation → Abbreviation → Bool
is_in from None abbreviation = is_eq (abbreviation_cmp abbreviation from)
is_in from (Some end) abbreviation =
    is_le (abbreviation_cmp from abbreviation) && is_lt (abbreviation_cmp abbreviation end)

abbrev pub is_within : Bounds → Abbreviation → Bool
is_within bounds abbreviation = is_in bounds.from bounds.end abbreviation

-- States that the end of a range fits a pattern. If an asterisk ends the pattern, the end has the
-- symbols of the name and of the text before the asterisk, with the last one raised. Otherwise
-- there is no end.
abbrev pub IsEnd : List ℕ → Option (List ℕ) → Option Abbreviation → Type 0
IsEnd name None None = Unit {0}
IsEnd name (Some front) (Some end) = Spells end (symbols_to Raised (name, front))
IsEnd name None (Some end) = ⊥
IsEnd name (Some front) None = ⊥

-- The range of a name and a pattern.
pub record AreBounds (bounds : Bounds) (name pattern : List ℕ) : Type 0 where
  pub from : IsAbbreviation bounds.from (first_wanted name pattern)
  pub end : IsEnd name (before_wildcard pattern) bounds.end
