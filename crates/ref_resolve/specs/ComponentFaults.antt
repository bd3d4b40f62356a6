-- What is checked of the components of a text, and how many octets they spell.
use Rattle.std.specs.Prelude.{ℕ, ◌+◌, length, Bool, ◌&&◌}
use Rattle.reference_model.specs.References.{
  Components,
  scheme_text,
  authority_text,
  query_text,
  fragment_text,
  where_present,
  is_scheme,
  is_authority,
  is_text_of,
}
use Rattle.link_model.specs.Characters.{is_path_character, is_query_character}

-- Returns whether each component has only characters that it may have.
abbrev pub have_no_fault : Components → Bool
have_no_fault c =
    where_present is_scheme c.scheme
    && where_present is_authority c.authority
    && is_text_of is_path_character c.path
    && where_present (is_text_of is_query_character) c.query
    && where_present (is_text_of is_query_character) c.fragment

-- Returns how many octets the components have with their delimiters.
abbrev pub size_of : Components → ℕ
size_of c =
    length (scheme_text c.scheme)
    + length (authority_text c.authority)
    + length c.path
    + length (query_text c.query)
    + length (fragment_text c.fragment)
