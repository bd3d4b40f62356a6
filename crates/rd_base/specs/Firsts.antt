-- The first element of a list that passes a test: it changes, or it is removed.
use Rattle.std.specs.Prelude.{Bool, List, [], ◌∷◌, if◌then◌else◌}

-- Returns the list with the first element that passes a test changed.
unfoldable pub changed_first : {X : Type 0} → (X → Bool) → (X → X) → List X → List X
changed_first test change [] = []
changed_first test change (x ∷ xs) =
    if test x then change x ∷ xs else x ∷ changed_first test change xs

-- Returns the list without the first element that passes a test.
unfoldable pub without_first : {X : Type 0} → (X → Bool) → List X → List X
without_first test [] = []
without_first test (x ∷ xs) = if test x then xs else x ∷ without_first test xs
