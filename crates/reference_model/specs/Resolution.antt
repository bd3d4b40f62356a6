-- The resolution of a reference against a base (RFC 3986 section 5.2, strict).
use Rattle.std.specs.Prelude.{
  ℕ,
  Bool,
  ◌&&◌,
  ◌||◌,
  ◌==◌,
  List,
  [],
  ◌∷◌,
  ◌++◌,
  reverse,
  fold,
  Option,
  Some,
  None,
  is_some,
  if◌then◌else◌,
  bytes_eq,
  codes,
}
use Rattle.std.specs.List.{concat}
use Rattle.link_model.specs.Characters.{slash, is_empty}
use Rattle.reference_model.specs.References.{Components, begins_with, components, recomposed}

-- ---- removing dot segments (RFC 3986 section 5.2.4)

-- Returns the segments with the octet in front of the first.
abbrev pub onto_first_segment : ℕ → List (List ℕ) → List (List ℕ)
onto_first_segment c [] = (c ∷ []) ∷ []
onto_first_segment c (segment ∷ segments) = (c ∷ segment) ∷ segments

-- Returns the segments of a path: what is before, between and after its slashes.
unfoldable pub segments_of : List ℕ → List (List ℕ)
segments_of [] = [] ∷ []
segments_of (c ∷ cs) =
    if c == slash then [] ∷ segments_of cs else onto_first_segment c (segments_of cs)

-- Returns whether a segment is one dot.
abbrev pub is_single_dot : List ℕ → Bool
is_single_dot segment = bytes_eq segment (codes ".")

-- Returns whether a segment is two dots.
abbrev pub is_double_dot : List ℕ → Bool
is_double_dot segment = bytes_eq segment (codes "..")

-- Returns whether a segment is one dot or two.
abbrev pub is_dot_segment : List ℕ → Bool
is_dot_segment segment = is_single_dot segment || is_double_dot segment

-- Returns the segments, and an empty one after them if the last is a dot segment.
abbrev pub with_closing_slash : List (List ℕ) → List (List ℕ)
with_closing_slash [] = []
with_closing_slash (segment ∷ []) =
    if is_dot_segment segment then segment ∷ [] ∷ [] else segment ∷ []
with_closing_slash (segment ∷ next ∷ segments) = segment ∷ with_closing_slash (next ∷ segments)

-- Returns the segments without the dot segments at the beginning, which have no slash before them.
abbrev pub without_leading_dots : List (List ℕ) → List (List ℕ)
without_leading_dots [] = []
without_leading_dots (segment ∷ segments) =
    if is_dot_segment segment then without_leading_dots segments else segment ∷ segments

-- Returns the segments without the last one that was kept.
abbrev pub without_last_kept : List (List ℕ) → List (List ℕ)
without_last_kept [] = []
without_last_kept (segment ∷ kept) = kept

-- Returns the segments that are kept, last one first, after one more. Two dots remove the last one,
-- and one dot is left out.
abbrev pub kept_with : List (List ℕ) → List ℕ → List (List ℕ)
kept_with kept segment =
    if is_double_dot segment
    then without_last_kept kept
    else (if is_single_dot segment then kept else (slash ∷ segment) ∷ kept)

-- Returns the path of segments without dot segments; the first has no slash before it.
abbrev pub path_without_dots : List (List ℕ) → List ℕ
path_without_dots [] = []
path_without_dots (first ∷ segments) = concat (reverse (fold kept_with (first ∷ []) segments))

-- Returns the path without its dot segments.
unfoldable pub remove_dot_segments : List ℕ → List ℕ
remove_dot_segments path =
    path_without_dots (without_leading_dots (with_closing_slash (segments_of path)))

-- ---- merging paths (RFC 3986 section 5.2.3)

-- Returns the path up to and with its last slash.
abbrev pub up_to_last_slash : List ℕ → List ℕ
up_to_last_slash path = path_text (segments_of path)
  where
    path_text : List (List ℕ) → List ℕ
    path_text [] = []
    path_text (segment ∷ []) = []
    path_text (segment ∷ next ∷ segments) = segment ++ slash ∷ path_text (next ∷ segments)

-- Returns the path of a reference, put after that of the base.
unfoldable pub merged : Components → List ℕ → List ℕ
merged base path =
    if is_some base.authority && is_empty base.path
    then slash ∷ path
    else up_to_last_slash base.path ++ path

-- ---- resolving (RFC 3986 section 5.2.2)

-- Returns the first text if there is one, and otherwise the second.
abbrev pub present_or : Option (List ℕ) → Option (List ℕ) → Option (List ℕ)
present_or None other = other
present_or (Some text) other = Some text

-- Returns the components of a reference with another path.
abbrev pub with_path : Components → List ℕ → Components
with_path c path = record c { path = path }

-- Returns the path of a reference with neither scheme nor authority, resolved against a base.
abbrev pub resolved_path : Components → Components → List ℕ
resolved_path base r =
    if is_empty r.path then base.path
    else (if begins_with slash r.path
    then remove_dot_segments r.path
    else remove_dot_segments (merged base r.path))

-- Returns the query of a reference with neither scheme nor authority, resolved against a base.
abbrev pub resolved_query : Components → Components → Option (List ℕ)
resolved_query base r = if is_empty r.path then present_or r.query base.query else r.query

-- Returns the components of a reference, resolved against a base.
unfoldable pub resolution : Components → Components → Components
resolution base r =
    if is_some r.scheme then record r { path = remove_dot_segments r.path }
    else (if is_some r.authority then record r
    { scheme = base.scheme; path = remove_dot_segments r.path }
    else record {
      scheme = base.scheme;
      authority = base.authority;
      path = resolved_path base r;
      query =
          resolved_query base r;
      fragment = r.fragment;
    })

-- Returns the text of a reference, resolved against a base.
unfoldable pub resolved : List ℕ → List ℕ → List ℕ
resolved base text = recomposed (resolution (components base) (components text))
