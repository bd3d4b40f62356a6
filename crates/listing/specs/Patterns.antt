-- The values that a pattern matches, after it was cut (RFC 6690 section 4.1).
use Rattle.std.specs.Prelude.{ℕ, Bool, List, bytes_eq, nat_eq}
use Rattle.std.specs.List.{starts_with}
use Rattle.listing.specs.declared.patterns.Pattern.{Pattern}
use Rattle.listing.specs.declared.patterns.Pattern.TheVariants.{Front, Whole}

-- Returns whether the value begins with the text of the pattern, or is that text.
abbrev pub fits : Pattern → List ℕ → Bool
fits (Front text) value = starts_with nat_eq value text.now
fits (Whole text) value = bytes_eq value text.now
