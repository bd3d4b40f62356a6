-- The number of an option.
use Rattle.std.specs.Prelude.{ℕ, List, Option, Some, None, if◌then◌else◌}
use Rattle.record_model.specs.Options.{is_number, number_of}
use Rattle.record_model.specs.Parameters.{is_lifetime}

-- Returns the number that the text spells, if it spells one.
abbrev pub number_in : List ℕ → Option ℕ
number_in text = if is_number text then Some (number_of text) else None

-- Returns the lifetime that the text spells, if it spells one.
abbrev pub lifetime_in : List ℕ → Option ℕ
lifetime_in text = if is_lifetime text then Some (number_of text) else None
