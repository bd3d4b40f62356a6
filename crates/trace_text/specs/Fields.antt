-- The fields of a text by what precedes and follows its first space.
use Rattle.std.specs.Prelude.{ℕ, List, [], ◌∷◌, Option, Some, None}
use Rattle.line_model.specs.Lines.{fields}

-- Returns the fields of a text that has no space, or of one that is cut at its first.
abbrev pub fields_of_cut : List ℕ → Option (List ℕ × List ℕ) → List (List ℕ)
fields_of_cut text None = text ∷ []
fields_of_cut text (Some parts) = parts.0 ∷ fields parts.1
