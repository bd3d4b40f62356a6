-- The name of a board, and the rule by which each of its ends knows it.
use Rattle.std.specs.Prelude.{ℕ, ◌≡◌, true, false, List, [], ◌∷◌}
use mathlib.Core.Option.{some}
use lib.ListN.{get_elem?}
use Rattle.logbook.specs.Pages.{Book}
use Rattle.version_board.specs.declared.published.Published.{Published}
use Rattle.version_board.specs.declared.readers.Known.{Known}

-- Returns the name of a board: the numbers of its book, which no other book has.
abbrev pub name_of : Book → List ℕ
name_of book = book.number ∷ book.log_name ∷ book.cells_name ∷ []

-- Returns what an end knows once it knows a name. Before that, it is `unknown`.
abbrev pub knowing : List ℕ → Known
knowing name = record { known = true; name = name }

abbrev pub unknown : Known
unknown = record { known = false; name = [] }

-- States that each end that knows a name knows that of the published version.
abbrev pub AllKnow : Published → List Known → Type 0
AllKnow shown views =
    (seat : ℕ) (v : Known)
    → get_elem? views seat ≡ some v
    → v.known ≡ true
    → v ≡ knowing (name_of shown.front.book)

-- States that a reader takes the published version and then knows its name. If the reader knew a
-- name before, it was that one.
abbrev pub Takes : Known → Published → Published → Known → Type 0
Takes v before after w =
    (w ≡ knowing (name_of before.front.book))
    × (v.known ≡ true → v ≡ knowing (name_of before.front.book))

-- States that the publisher learns the name, at the first publication.
abbrev pub Names : Known → Published → Published → Known → Type 0
Names v before after w = w ≡ knowing (name_of after.front.book)

-- States that what is known does not change, at each later publication.
abbrev pub Shows : Known → Published → Published → Known → Type 0
Shows v before after w = w ≡ v
