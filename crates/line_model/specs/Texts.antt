-- The lines of a whole trace.
use Rattle.std.specs.Prelude.{ℕ, ◌==◌, List, [], ◌∷◌, if◌then◌else◌}
use Rattle.std.specs.List.{onto_first}

-- The octet that ends a line.
abbrev pub line_feed : ℕ
line_feed = 10

-- Returns the lines of a text, without their line feeds. The last may have no line feed, and no
-- line begins after a last line feed.
unfoldable pub lines_of : List ℕ → List (List ℕ)
lines_of [] = []
lines_of (byte ∷ rest) =
    if byte == line_feed then [] ∷ lines_of rest else onto_first byte (lines_of rest)
