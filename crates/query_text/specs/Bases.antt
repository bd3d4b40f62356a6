-- The fault of a base by itself, and the octets that link-local addresses begin with.
use Rattle.std.specs.Prelude.{ℕ, Bool, not, List, [], ◌∷◌, Option, codes}
use Rattle.std.specs.Str.{str_to_ascii_lowercase}
use Rattle.record_model.specs.declared.readings.Why.{Why}
use Rattle.record_model.specs.declared.readings.Why.TheVariants as why
use Rattle.record_model.specs.Faults.{first_reason}
use Rattle.record_model.specs.Options.{is_among}
use Rattle.record_model.specs.Parameters.{is_base, is_link_local}

-- Returns whether the octets are those that a link-local address begins with, in either case (RFC
-- 4291 section 2.5.6).
abbrev pub begins_link_local : List ℕ → Bool
begins_link_local front =
    is_among (codes "fe8" ∷ codes "fe9" ∷ codes "fea" ∷ codes "feb" ∷ [])
    (str_to_ascii_lowercase front)

-- Returns the fault of a base, whatever precedes it.
abbrev pub base_fault : List ℕ → Option Why
base_fault value =
    first_reason ((not (is_base value), why.Base) ∷ (is_link_local value, why.LinkLocal) ∷ [])
