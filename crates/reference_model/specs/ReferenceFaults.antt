-- The offset at which a text stops being the beginning of any URI-reference (RFC 3986 section 4.1).
use Rattle.std.specs.Prelude.{
  ℕ,
  zero,
  suc,
  ◌+◌,
  ◌<◌,
  ◌≤◌,
  max,
  Bool,
  ◌&&◌,
  ◌||◌,
  ◌==◌,
  List,
  [],
  ◌∷◌,
  ◌++◌,
  length,
  take,
  Option,
  Some,
  None,
  unwrap_or,
  if◌then◌else◌,
}
use Rattle.std.specs.List.{prefix_len}
use Rattle.std.specs.Char.{is_ascii_digit, is_ascii_hexdigit}
use Rattle.link_model.specs.Characters.{
  percent_sign,
  colon,
  at_sign,
  left_bracket,
  right_bracket,
  is_run_of,
  is_name_character,
  is_userinfo_character,
  is_literal_character,
  is_path_character,
  is_query_character,
}
use Rattle.reference_model.specs.References.{
  Components,
  IsReference,
  before,
  after,
  begins_with,
  has_octet,
  from_first,
  components,
  scheme_text,
  authority_text,
  query_text,
  fragment_text,
  where_present,
  is_scheme,
  is_authority,
  is_allowed,
  is_text_of,
  digits_after,
}

-- States that the octets begin some URI-reference.
abbrev pub BeginsReference : List ℕ → Type 0
BeginsReference bytes = (more : List ℕ) × (c : Components) × IsReference (bytes ++ more) c

-- The fault of octets that are no URI-reference: the first `n` of them are the longest prefix that
-- begins some URI-reference.
pub record IsReferenceFault (bytes : List ℕ) (n : ℕ) : Type 0 where
  pub refused : (c : Components) → ¬ (IsReference bytes c)
  pub within : n ≤ length bytes
  pub begins : BeginsReference (take n bytes)
  pub longest : (m : ℕ) → n < m → m ≤ length bytes → ¬ (BeginsReference (take m bytes))

-- ---- how far a text begins some text of a kind: the length of its longest prefix that does

-- Returns the length of the longest prefix that begins a text of this kind. Such a text is this
-- many hexadecimal digits, and then characters that pass the test and percent escapes.
abbrev pub prefix_after_digits : (ℕ → Bool) → ℕ → List ℕ → ℕ
prefix_after_digits test digits [] = 0
prefix_after_digits test zero (c ∷ cs) =
    if c == percent_sign || test c then suc (prefix_after_digits test (digits_after c) cs) else 0
prefix_after_digits test (suc n) (c ∷ cs) =
    if is_ascii_hexdigit c then suc (prefix_after_digits test n cs) else 0

-- Returns the length of the longest prefix of characters that pass the test and percent escapes,
-- the last of which may be cut off.
abbrev pub text_prefix : (ℕ → Bool) → List ℕ → ℕ
text_prefix test text = prefix_after_digits test 0 text

-- Returns the length of the longest prefix that begins a port: a colon and digits, or nothing.
abbrev pub port_prefix : List ℕ → ℕ
port_prefix [] = 0
port_prefix (c ∷ cs) = if c == colon then suc (prefix_len is_ascii_digit cs) else 0

-- Returns the length of the longest prefix that begins an IP literal and a port or none.
abbrev pub literal_prefix : List ℕ → ℕ
literal_prefix [] = 0
literal_prefix (c ∷ cs) =
    if is_run_of is_literal_character (before right_bracket cs) && has_octet right_bracket cs
    then 2 + length (before right_bracket cs) + port_prefix (unwrap_or (after right_bracket cs) [])
    else suc (prefix_len is_literal_character (before right_bracket cs))

-- Returns the length of the longest prefix that begins a registered name and a port or none.
abbrev pub name_prefix : List ℕ → ℕ
name_prefix text =
    if is_text_of is_name_character (before colon text)
    then length (before colon text) + port_prefix (from_first colon text)
    else text_prefix is_name_character (before colon text)

-- Returns the length of the longest prefix that begins a host and a port or none.
abbrev pub host_prefix : List ℕ → ℕ
host_prefix text = if begins_with left_bracket text then literal_prefix text else name_prefix text

-- Returns the length of the longest prefix that begins an authority. The text before an `@` may be
-- user information or a host, and that after it is a host.
unfoldable pub authority_prefix : List ℕ → ℕ
authority_prefix authority =
    if is_text_of is_userinfo_character (before at_sign authority) && has_octet at_sign authority
    then length (before at_sign authority)
    + 1
    + host_prefix (unwrap_or (after at_sign authority) [])
    else max (text_prefix is_userinfo_character (before at_sign authority))
    (host_prefix (before at_sign authority))

-- ---- the parts of a reference in their order

-- A part of a reference: its text with its delimiters, whether it is allowed there, and the length
-- of its longest prefix that is.
pub record Part : Type 0 where
  pub text : List ℕ
  pub allowed : Bool
  pub prefix : ℕ

-- Returns the length of the parts up to the first that is not allowed, and of the prefix of that
-- one.
abbrev pub prefix_of_parts : List Part → ℕ
prefix_of_parts [] = 0
prefix_of_parts (part ∷ parts) =
    if part.allowed then length part.text + prefix_of_parts parts else part.prefix

-- Returns the part of a scheme. A text before a colon that is no scheme may begin a path.
abbrev pub scheme_part : Option (List ℕ) → Part
scheme_part scheme = record {
  text = scheme_text scheme;
  allowed = where_present is_scheme scheme;
  prefix = text_prefix is_path_character (unwrap_or scheme []);
}

-- Returns the part of an authority after its two slashes.
abbrev pub authority_part : Option (List ℕ) → Part
authority_part authority = record {
  text = authority_text authority;
  allowed = where_present is_authority authority;
  prefix = 2 + authority_prefix (unwrap_or authority []);
}

-- Returns the part of a path.
abbrev pub path_part : List ℕ → Part
path_part path = record {
  text = path;
  allowed = is_text_of is_path_character path;
  prefix = text_prefix is_path_character path;
}

-- Returns the part of a query after its question mark.
abbrev pub query_part : Option (List ℕ) → Part
query_part query = record {
  text = query_text query;
  allowed = where_present (is_text_of is_query_character) query;
  prefix = 1 + text_prefix is_query_character (unwrap_or query []);
}

-- Returns the part of a fragment after its number sign.
abbrev pub fragment_part : Option (List ℕ) → Part
fragment_part fragment = record {
  text = fragment_text fragment;
  allowed = where_present (is_text_of is_query_character) fragment;
  prefix = 1 + text_prefix is_query_character (unwrap_or fragment []);
}

-- Returns the parts of a reference.
abbrev pub parts_of : Components → List Part
parts_of c =
    scheme_part c.scheme
    ∷ authority_part c.authority
    ∷ path_part c.path
    ∷ query_part c.query
    ∷ fragment_part c.fragment
    ∷ []

-- Returns the offset of the first octet that no URI-reference with the same octets before it can
-- have there, or the length. Returns `None` if the text is a URI-reference: `IsReferenceFault` as a
-- function.
unfoldable pub reference_fault_at : List ℕ → Option ℕ
reference_fault_at bytes =
    if is_allowed (components bytes)
    then None
    else Some (prefix_of_parts (parts_of (components bytes)))
