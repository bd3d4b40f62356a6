-- The first part of a value, and those after it (RFC 6690 section 2: the values of rel, rev, rt and
-- if are lists).
use Rattle.std.specs.Prelude.{◌≡◌, ℕ, ◌<◌, List, [], ◌∷◌, length, Option, Some, None}
use denote.Ref.{Bor}
use Rattle.record_model.specs.Matching.{parts_of}

-- States that the result is the first part of a value, with a shorter text that has its other
-- parts. Without a result, the value has no part.
abbrev pub FirstPart : List ℕ → Option (Bor (List ℕ) × Bor (List ℕ)) → Type 0
FirstPart value (Some (part, rest)) =
    (parts_of value ≡ part.now ∷ parts_of rest.now) × (length rest.now < length value)
FirstPart value None = parts_of value ≡ []
