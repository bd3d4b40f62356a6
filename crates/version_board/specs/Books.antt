-- The book of a board: its rule, the step that enters an entry, and how two prefixes of one list
-- are related.
use Rattle.std.specs.Prelude.{◌≡◌, ◌⊎◌, ℕ, ◌==◌, true, List, [], ◌∷◌, ◌++◌}
use Rattle.std.specs.Bool.{MatchBool}
use mathlib.Core.List.{IsPrefix}
use Rattle.logbook.specs.Pages.{Cell, Step, View, Book, Named}
use Rattle.history_model.specs.declared.entries.Entry.{Entry}
use Rattle.history_model.specs.Replay.{counted}

-- States that one of two lists is a prefix of the other.
abbrev pub InOrder : {A : Type 0} → List A → List A → Type 0
InOrder one other = IsPrefix one other ⊎ IsPrefix other one

-- States that the first word of a book is the count of its entries. The second one, which each book
-- has, stays 0.
abbrev pub IsKept : List Cell → List Entry → Type 0
IsKept cells log = cells ≡ (counted 0 log, true) ∷ (0, true) ∷ []

-- Returns the first word of a book.
abbrev pub head_of : Book → Named
head_of book = record { tracked = true; key = 0; book = book }

-- States that the entry came after all that had been seen, if the count of entries was as expected.
-- Otherwise the current book was seen.
abbrev pub Enters : Step Entry → View Entry ℕ → ℕ → View Entry ℕ → Type 0
Enters step before found after =
    MatchBool (found == step.old) (after.0 ≡ before.0 ++ step.ask ∷ []) (counted 0 after.0 ≡ found)
