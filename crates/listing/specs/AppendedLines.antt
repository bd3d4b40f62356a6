-- The lines of a record that are shown, and a text followed by lines (RFC 6690 section 2: commas
-- separate link-values).
use Rattle.std.specs.Prelude.{ℕ, List, [], ◌∷◌, ◌++◌, take, drop, flat_map}
use Rattle.std.specs.List.{join_with_byte}
use Rattle.link_model.specs.Characters.{comma}

-- Returns the lines after the first `skip`, at most `most` of them.
abbrev pub shown_lines : ℕ → ℕ → List (List ℕ) → List (List ℕ)
shown_lines skip most lines = take most (drop skip lines)

-- Returns a text followed by lines. A comma separates two lines, and follows the text unless it is
-- empty.
unfoldable pub appended : List ℕ → List (List ℕ) → List ℕ
appended [] lines = join_with_byte comma lines
appended (c ∷ cs) lines = (c ∷ cs) ++ flat_map (λ line. comma ∷ line) lines

-- Returns a text as it precedes a line: with a comma after it, unless it is empty.
abbrev pub separated : List ℕ → List ℕ
separated [] = []
separated (c ∷ cs) = (c ∷ cs) ++ comma ∷ []
