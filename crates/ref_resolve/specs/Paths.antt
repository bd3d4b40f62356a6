-- A path as it grows, segment by segment, and its end cut off at a slash.
use Rattle.std.specs.Prelude.{ℕ, List, [], ◌∷◌, ◌++◌, if◌then◌else◌}
use Rattle.link_model.specs.Characters.{slash}
use Rattle.reference_model.specs.References.{has_octet}
use Rattle.reference_model.specs.Resolution.{
  segments_of,
  is_single_dot,
  is_double_dot,
  with_closing_slash,
}

-- Returns what precedes the last octet of that kind, or nothing.
unfoldable pub before_last : ℕ → List ℕ → List ℕ
before_last mark [] = []
before_last mark (c ∷ cs) = if has_octet mark cs then c ∷ before_last mark cs else []

-- Returns the path after one more segment. Two dots remove its last segment, and one dot is left
-- out.
abbrev pub path_with : List ℕ → List ℕ → List ℕ
path_with path segment =
    if is_double_dot segment
    then before_last slash path
    else (if is_single_dot segment then path else path ++ slash ∷ segment)

-- Returns the segments after the first slash of a text that begins with it. If the last is a dot
-- segment, an empty one follows them.
unfoldable pub closed_segments : List ℕ → List (List ℕ)
closed_segments [] = []
closed_segments (c ∷ cs) = with_closing_slash (segments_of cs)
