-- Histories, the newest row first.
use Rattle.std.specs.Prelude.{◌≡◌, ℕ, ◌<◌, ◌==◌, List, [], ◌∷◌, ◌++◌, filter}

-- States that the older history is the end of the newer one. What happened since then precedes it
-- in the list.
abbrev pub Extends : {R : Type 0} → List R → List R → Type 0
Extends {R} older newer = (since : List R) × (newer ≡ since ++ older)

module _ {R : Type 0} (number : R → ℕ) where
  -- Returns the rows with a number.
  abbrev pub rows_of : ℕ → List R → List R
  rows_of n rows = filter (λ r. number r == n) rows

  -- States that each row has a number below `n`.
  abbrev pub AllBelow : ℕ → List R → Type 0
  AllBelow n [] = Unit {0}
  AllBelow n (r ∷ rs) = (number r < n) × AllBelow n rs
