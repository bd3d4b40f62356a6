-- References: the five components of a URI-reference, and which characters each may have (RFC 3986
-- sections 3 and 4).
use Rattle.std.specs.Prelude.{
  ◌≡◌,
  ℕ,
  zero,
  suc,
  Bool,
  true,
  false,
  not,
  ◌&&◌,
  ◌||◌,
  ◌==◌,
  List,
  [],
  ◌∷◌,
  ◌++◌,
  Option,
  Some,
  None,
  is_some,
  unwrap_or,
  if◌then◌else◌,
}
use Rattle.std.specs.List.{list_any, list_all}
use Rattle.std.specs.Char.{is_ascii_alphabetic, is_ascii_digit, is_ascii_hexdigit}
use Rattle.link_model.specs.Characters.{
  number_sign,
  percent_sign,
  slash,
  colon,
  question_mark,
  at_sign,
  left_bracket,
  right_bracket,
  is_empty,
  is_run_of,
  is_scheme_character,
  is_name_character,
  is_userinfo_character,
  is_literal_character,
  is_path_character,
  is_query_character,
}

-- The five components of a reference (RFC 3986 section 3).
pub record Components : Type 0 where
  pub scheme : Option (List ℕ)
  pub authority : Option (List ℕ)
  pub path : List ℕ
  pub query : Option (List ℕ)
  pub fragment : Option (List ℕ)

-- Returns the text before the first octet of that kind, or all of it if there is none.
unfoldable pub before : ℕ → List ℕ → List ℕ
before mark [] = []
before mark (c ∷ cs) = if c == mark then [] else c ∷ before mark cs

-- Returns the text after the first octet of that kind, if there is one.
unfoldable pub after : ℕ → List ℕ → Option (List ℕ)
after mark [] = None
after mark (c ∷ cs) = if c == mark then Some cs else after mark cs

-- Returns whether the octet is in the text.
abbrev pub has_octet : ℕ → List ℕ → Bool
has_octet mark text = list_any (λ c. c == mark) text

-- Returns whether the text begins with the octet.
abbrev pub begins_with : ℕ → List ℕ → Bool
begins_with mark [] = false
begins_with mark (c ∷ cs) = c == mark

-- ---- splitting a reference (RFC 3986 appendix B)

-- Returns the text without its fragment.
abbrev pub without_fragment : List ℕ → List ℕ
without_fragment text = before number_sign text

-- Returns the text without its fragment and its query.
abbrev pub without_query : List ℕ → List ℕ
without_query text = before question_mark (without_fragment text)

-- Returns whether a colon is before the first slash.
abbrev pub has_colon_in_first_segment : List ℕ → Bool
has_colon_in_first_segment text = has_octet colon (before slash text)

-- Returns the scheme of a text: what is before a colon in the first segment.
abbrev pub scheme_in : List ℕ → Option (List ℕ)
scheme_in text = if has_colon_in_first_segment text then Some (before colon text) else None

-- Returns what follows the scheme and its colon, or all of the text if there is no scheme.
abbrev pub after_scheme : List ℕ → List ℕ
after_scheme text =
    if has_colon_in_first_segment text then unwrap_or (after colon text) [] else text

-- Returns what follows two slashes at the beginning, if the text begins with them.
abbrev pub after_two_slashes : List ℕ → Option (List ℕ)
after_two_slashes [] = None
after_two_slashes (c ∷ []) = None
after_two_slashes (c ∷ d ∷ cs) = if c == slash && d == slash then Some cs else None

-- Returns the authority of a text: what is between two slashes at the beginning and the next slash.
abbrev pub authority_in : List ℕ → Option (List ℕ)
authority_in text = up_to_slash (after_two_slashes text)
  where
    up_to_slash : Option (List ℕ) → Option (List ℕ)
    up_to_slash None = None
    up_to_slash (Some rest) = Some (before slash rest)

-- Returns the text from the first octet of that kind on, or nothing if there is none.
unfoldable pub from_first : ℕ → List ℕ → List ℕ
from_first mark [] = []
from_first mark (c ∷ cs) = if c == mark then c ∷ cs else from_first mark cs

-- Returns the path of a text: what follows the authority, or all of the text if there is none.
abbrev pub path_in : List ℕ → List ℕ
path_in text = after_authority (after_two_slashes text)
  where
    after_authority : Option (List ℕ) → List ℕ
    after_authority None = text
    after_authority (Some rest) = from_first slash rest

-- Returns the components of a text.
unfoldable pub components : List ℕ → Components
components text = record {
  scheme = scheme_in (without_query text);
  authority = authority_in (after_scheme (without_query text));
  path = path_in (after_scheme (without_query text));
  query = after question_mark (without_fragment text);
  fragment = after number_sign text;
}

-- ---- putting it together (RFC 3986 section 5.3)

-- Returns the text of a scheme with its colon, if there is one.
abbrev pub scheme_text : Option (List ℕ) → List ℕ
scheme_text None = []
scheme_text (Some scheme) = scheme ++ colon ∷ []

-- Returns the text of an authority after two slashes, if there is one.
abbrev pub authority_text : Option (List ℕ) → List ℕ
authority_text None = []
authority_text (Some authority) = slash ∷ slash ∷ authority

-- Returns the text after its mark, if there is one.
abbrev pub marked : ℕ → Option (List ℕ) → List ℕ
marked mark None = []
marked mark (Some text) = mark ∷ text

-- Returns the text of a query after its question mark, if there is one.
abbrev pub query_text : Option (List ℕ) → List ℕ
query_text query = marked question_mark query

-- Returns the text of a fragment after its number sign, if there is one.
abbrev pub fragment_text : Option (List ℕ) → List ℕ
fragment_text fragment = marked number_sign fragment

-- Returns the text that the components spell.
unfoldable pub recomposed : Components → List ℕ
recomposed c =
    scheme_text c.scheme
    ++ (authority_text c.authority
    ++ (c.path ++ (query_text c.query ++ fragment_text c.fragment)))

-- ---- what each component may have

-- Returns whether there is no text, or it passes the test.
abbrev pub where_present : (List ℕ → Bool) → Option (List ℕ) → Bool
where_present test None = true
where_present test (Some text) = test text

-- Returns how many hexadecimal digits must follow the octet: two after a percent sign (RFC 3986
-- section 2.1).
abbrev pub digits_after : ℕ → ℕ
digits_after c = if c == percent_sign then 2 else 0

-- Returns whether the text has this many hexadecimal digits at its beginning, and then characters
-- that pass the test and percent escapes.
abbrev pub is_text_after_digits : (ℕ → Bool) → ℕ → List ℕ → Bool
is_text_after_digits test zero [] = true
is_text_after_digits test (suc n) [] = false
is_text_after_digits test zero (c ∷ cs) =
    (c == percent_sign || test c) && is_text_after_digits test (digits_after c) cs
is_text_after_digits test (suc n) (c ∷ cs) = is_ascii_hexdigit c && is_text_after_digits test n cs

-- Returns whether the text has only characters that pass the test, and percent escapes of two
-- hexadecimal digits.
abbrev pub is_text_of : (ℕ → Bool) → List ℕ → Bool
is_text_of test text = is_text_after_digits test 0 text

-- Returns whether a text is a scheme: a letter, and then letters, digits, plus signs, hyphens and
-- full stops (RFC 3986 section 3.1).
abbrev pub is_scheme : List ℕ → Bool
is_scheme [] = false
is_scheme (c ∷ cs) = is_ascii_alphabetic c && list_all is_scheme_character cs

-- Returns the user information of an authority: what is before its first `@`, if it has one (RFC
-- 3986 section 3.2).
abbrev pub userinfo_of : List ℕ → Option (List ℕ)
userinfo_of authority =
    if has_octet at_sign authority then Some (before at_sign authority) else None

-- Returns the host of an authority, with its port if it has one.
abbrev pub after_userinfo : List ℕ → List ℕ
after_userinfo authority = unwrap_or (after at_sign authority) authority

-- Returns the text up to and with the first octet of that kind, or all of it if there is none.
unfoldable pub through : ℕ → List ℕ → List ℕ
through mark [] = []
through mark (c ∷ cs) = if c == mark then c ∷ [] else c ∷ through mark cs

-- Returns the host at the beginning of a text, an IP literal with its brackets (RFC 3986 section
-- 3.2.2).
abbrev pub host_in : List ℕ → List ℕ
host_in text =
    if begins_with left_bracket text then through right_bracket text else before colon text

-- Returns whether a text is a port with its colon, with digits or none; or nothing (RFC 3986
-- section 3.2.3).
abbrev pub is_port_text : List ℕ → Bool
is_port_text [] = true
is_port_text (c ∷ cs) = c == colon && list_all is_ascii_digit cs

-- Returns whether a text is an IP literal, and a port or none. It is a bracket, one or more
-- hexadecimal digits, colons and full stops, and a closing bracket.
abbrev pub is_literal_and_port : List ℕ → Bool
is_literal_and_port [] = false
is_literal_and_port (c ∷ cs) =
    c
    == left_bracket
    && is_run_of is_literal_character (before right_bracket cs)
    && where_present is_port_text (after right_bracket cs)
    && has_octet right_bracket cs

-- Returns whether a text is a registered name, and a port or none.
abbrev pub is_name_and_port : List ℕ → Bool
is_name_and_port text =
    is_text_of is_name_character (before colon text) && is_port_text (from_first colon text)

-- Returns whether a text is a host, and a port or none.
abbrev pub is_host_and_port : List ℕ → Bool
is_host_and_port text = is_literal_and_port text || is_name_and_port text

-- Returns whether a text is an authority: user information or none, a host, and a port or none (RFC
-- 3986 section 3.2).
abbrev pub is_authority : List ℕ → Bool
is_authority authority =
    where_present (is_text_of is_userinfo_character) (userinfo_of authority)
    && is_host_and_port (after_userinfo authority)

-- Returns whether the path is allowed with the scheme and the authority (RFC 3986 section 3.3).
-- After an authority it begins with a slash or is empty, and without one it does not begin with
-- two. If there is neither authority nor scheme, its first segment has no colon.
abbrev pub path_fits : Components → Bool
path_fits c =
    if is_some c.authority then is_empty c.path || begins_with slash c.path
    else not (is_some (after_two_slashes c.path))
    && (is_some c.scheme || not (has_colon_in_first_segment c.path))

-- Returns whether each component has only what it may have.
abbrev pub is_allowed : Components → Bool
is_allowed c =
    where_present is_scheme c.scheme
    && where_present is_authority c.authority
    && is_text_of is_path_character c.path
    && path_fits c
    && where_present (is_text_of is_query_character) c.query
    && where_present (is_text_of is_query_character) c.fragment

-- A URI-reference with these components (RFC 3986 section 4.1).
pub record IsReference (bytes : List ℕ) (c : Components) : Type 0 where
  pub spelled : bytes ≡ recomposed c
  pub allowed : is_allowed c ≡ true

-- Returns the components of a URI-reference, or `None` if the octets are none: `IsReference` as a
-- function.
unfoldable pub reference : List ℕ → Option Components
reference bytes = if is_allowed (components bytes) then Some (components bytes) else None

-- Returns whether a reference has a scheme, which makes it a URI (RFC 3986 section 4.3).
abbrev pub has_scheme : Components → Bool
has_scheme c = is_some c.scheme

-- Returns the host of an authority, as it is spelled.
unfoldable pub host_of : List ℕ → List ℕ
host_of authority = host_in (after_userinfo authority)

-- Returns the host of a reference, if it has an authority.
abbrev pub host : Components → Option (List ℕ)
host c = host_where c.authority
  where
    host_where : Option (List ℕ) → Option (List ℕ)
    host_where None = None
    host_where (Some authority) = Some (host_of authority)
