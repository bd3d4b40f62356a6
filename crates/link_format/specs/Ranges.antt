-- The octets that must follow an octet in UTF-8 (RFC 3629 section 4).
use Rattle.std.specs.Prelude.{ℕ, List, [], ◌∷◌, Option, Some, None, if◌then◌else◌}
use Rattle.std.specs.Int.{is_in_range}
use Rattle.link_model.specs.Utf8Prefix.{OctetRange, tails_of}

-- Returns the ranges of the octets that are due after an octet, given those that were due before
-- it. Returns `None` if the octet is not allowed there.
abbrev pub tails_after : List OctetRange → ℕ → Option (List OctetRange)
tails_after [] b = tails_of b
tails_after (r ∷ ranges) b = if is_in_range (r.0) (r.1) b then Some ranges else None
