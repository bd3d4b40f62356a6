-- References that are a path alone, and paths without dot segments, each recognized in one walk
-- over the octets.
use Rattle.std.specs.Prelude.{ℕ, Bool, true, false, not, ◌&&◌, ◌==◌, List, [], ◌∷◌, None}
use Rattle.std.specs.List.{list_all}
use Rattle.link_model.specs.Characters.{full_stop, slash, is_path_character}
use Rattle.reference_model.specs.References.{Components, begins_with}

-- Returns whether a text is one slash, not two, and then only characters of a path.
abbrev pub is_path_alone : List ℕ → Bool
is_path_alone [] = false
is_path_alone (c ∷ cs) = c == slash && not (begins_with slash cs) && list_all is_path_character cs

-- Returns the components of a text that is a path.
abbrev pub with_path_alone : List ℕ → Components
with_path_alone path = record {
  scheme = None;
  authority = None;
  path = path;
  query = None;
  fragment = None;
}

-- Returns whether no slash precedes a full stop.
unfoldable pub has_no_dot_after_slash : List ℕ → Bool
has_no_dot_after_slash [] = true
has_no_dot_after_slash (c ∷ cs) =
    not (c == slash && begins_with full_stop cs) && has_no_dot_after_slash cs
