-- Records by number.
use Rattle.std.specs.Prelude.{◌≡◌, ℕ, ◌==◌, nat_lt, List, [], ◌∷◌, if◌then◌else◌}
use Rattle.std.specs.List.{AllByRecursion}
use Rattle.rd_base.specs.declared.records.Record.{Record}

-- States that each record is under its number.
abbrev pub AreUnderNumbers : List (ℕ × Record) → Type 0
AreUnderNumbers pairs = AllByRecursion (λ p. p.0 ≡ p.1.number) pairs

-- Returns the records with one more, which replaces any record with its number.
unfoldable pub with_record : Record → List Record → List Record
with_record r [] = r ∷ []
with_record r (x ∷ xs) =
    if nat_lt r.number x.number
    then r ∷ x ∷ xs
    else (if r.number == x.number then r ∷ xs else x ∷ with_record r xs)
