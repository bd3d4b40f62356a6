-- The stored forms of a name and a value.
use Rattle.std.specs.Prelude.{◌≡◌, ℕ, List, [], drop}
use Rattle.std.specs.Arc.{arc_value}
use Rattle.attribute_index.specs.declared.abbreviations.Abbreviation.{Abbreviation}
use Rattle.attribute_index.specs.declared.values.Kept.{Kept}
use Rattle.attribute_index.specs.declared.values.Kept.TheVariants.{Whole, Long}
use Rattle.attribute_index.specs.Abbreviations.{symbols_of, told_by}

-- Returns the name and the value.
abbrev pub value_in : Kept → List ℕ × List ℕ
value_in (Whole abbreviation) = told_by abbreviation
value_in (Long texts) = ((arc_value texts).pair.name, (arc_value texts).pair.value)

-- Returns the abbreviation of the name and the value.
abbrev pub abbreviation_in : Kept → Abbreviation
abbreviation_in (Whole abbreviation) = abbreviation
abbreviation_in (Long texts) = (arc_value texts).abbreviation

-- States that, if the name and the value are stored without texts, they have fewer than 24 symbols.
abbrev pub IsKept : Kept → Type 0
IsKept (Whole abbreviation) = drop 23 (symbols_of (told_by abbreviation)) ≡ []
IsKept (Long texts) = Unit {0}
