-- What a criterion seeks in a link, and whether the link has it (RFC 9176 section 6.2).
use Rattle.std.specs.Prelude.{ℕ, Bool, true, false, ◌&&◌, List, Option, Some, None, bytes_eq}
use Rattle.std.specs.List.{list_any}
use Rattle.rd_base.specs.declared.attributes.Pair.{Pair}
use Rattle.rd_base.specs.declared.records.Item.{Item}
use Rattle.record_model.specs.Matching.{parts_of}
use Rattle.listing.specs.declared.patterns.Pattern.{Pattern}
use Rattle.listing.specs.declared.sought.Sought.{Sought}
use Rattle.listing.specs.declared.sought.Sought.TheVariants.{Target, Anchor, Value, Part}
use Rattle.listing.specs.Patterns.{fits}

-- Returns whether there is a text, and it fits the pattern.
abbrev pub fits_present : Pattern → Option (List ℕ) → Bool
fits_present pattern None = false
fits_present pattern (Some text) = fits pattern text

-- Returns whether an attribute has this name and a value that fits the pattern.
abbrev pub has_value : List ℕ → Pattern → List Pair → Bool
has_value name pattern pairs =
    list_any (λ pair. bytes_eq pair.name name && fits pattern pair.value) pairs

-- Returns whether an attribute has this name and a value of which one part fits the pattern.
abbrev pub has_part : List ℕ → Pattern → List Pair → Bool
has_part name pattern pairs =
    list_any (λ pair. bytes_eq pair.name name && list_any (fits pattern) (parts_of pair.value))
    pairs

-- Returns whether the link has what is sought.
abbrev pub is_found : Sought → Item → Bool
is_found (Target pattern) item = fits pattern item.target
is_found (Anchor pattern) item = fits_present pattern item.anchor
is_found (Value name pattern) item = has_value name.now pattern item.pairs
is_found (Part name pattern) item = has_part name.now pattern item.pairs

-- Returns whether the link has what is sought. Returns true if nothing is sought.
abbrev pub is_found_if_any : Option Sought → Item → Bool
is_found_if_any None item = true
is_found_if_any (Some sought) item = is_found sought item
