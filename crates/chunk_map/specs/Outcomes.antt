-- What a change in place leaves of a part.
use Rattle.std.specs.Prelude.{List, [], ◌++◌}
use Rattle.chunk_map.specs.declared.part.Outcome.{Outcome}
use Rattle.chunk_map.specs.declared.part.Outcome.TheVariants.{Gone, Kept, Split}

-- Returns the pairs that are left in place of the part, given the part after the change.
abbrev pub standing : {P E : Type 0} → (P → List E) → P → Outcome P → List E
standing pairs part Gone = []
standing pairs part Kept = pairs part
standing pairs part (Split behind) = pairs part ++ pairs behind

-- States that what is left is whole.
abbrev pub StandWhole : {P : Type 0} → (P → Type 0) → P → Outcome P → Type 0
StandWhole is_whole part Gone = Unit {0}
StandWhole is_whole part Kept = is_whole part
StandWhole is_whole part (Split behind) = is_whole part × is_whole behind
