-- Link documents: which octets spell which links (RFC 6690 section 2).
use Rattle.std.specs.Prelude.{
  ◌≡◌,
  ℕ,
  ◌<◌,
  ◌≤◌,
  Bool,
  true,
  false,
  ◌&&◌,
  ◌||◌,
  ◌==◌,
  List,
  [],
  ◌∷◌,
  ◌++◌,
  map,
  take,
  length,
  Option,
  Some,
  None,
  flat_map,
  if◌then◌else◌,
  IsUtf8,
}
use Rattle.std.specs.List.{list_all, join_with_byte}
use Rattle.link_model.specs.Characters.{
  quote_mark,
  asterisk,
  comma,
  backslash,
  semicolon,
  less_than_sign,
  equals_sign,
  greater_than_sign,
  is_empty,
  is_run_of,
  is_not_control,
  is_attribute_name_character,
  is_token_character,
  is_target_character,
}

-- A parameter of a link: its name, and its value as it is spelled, if it has one.
pub record Parameter : Type 0 where
  pub name : List ℕ
  pub value : Option (List ℕ)

-- A link: its target, and its parameters in order.
pub record Link : Type 0 where
  pub target : List ℕ
  pub parameters : List Parameter

-- Returns the text of a value, from its equals sign on.
abbrev pub value_text : Option (List ℕ) → List ℕ
value_text None = []
value_text (Some value) = equals_sign ∷ value

-- Returns the text of a parameter, from its semicolon to its end.
abbrev pub parameter_text : Parameter → List ℕ
parameter_text p = semicolon ∷ (p.name ++ value_text p.value)

-- Returns the text of parameters, one after the other.
abbrev pub parameters_text : List Parameter → List ℕ
parameters_text parameters = flat_map parameter_text parameters

-- Returns the text of a link.
abbrev pub link_text : Link → List ℕ
link_text l = less_than_sign ∷ (l.target ++ greater_than_sign ∷ parameters_text l.parameters)

-- Returns the text of a document: its links, separated by commas.
unfoldable pub document_text : List Link → List ℕ
document_text links = join_with_byte comma (map link_text links)

-- Returns whether a text is characters of a name, with at most one asterisk, at its end.
abbrev pub are_name_characters : List ℕ → Bool
are_name_characters [] = true
are_name_characters (c ∷ cs) =
    if c == asterisk then is_empty cs else is_attribute_name_character c && are_name_characters cs

-- Returns whether a text is a parameter's name: one or more characters of a name, and after them an
-- asterisk or none (RFC 6690 section 2, parmname and ext-name-star).
abbrev pub is_parameter_name : List ℕ → Bool
is_parameter_name [] = false
is_parameter_name (c ∷ cs) = is_attribute_name_character c && are_name_characters cs

-- Returns whether a text is a value without quotes (RFC 6690 section 2, ptoken).
abbrev pub is_token : List ℕ → Bool
is_token value = is_run_of is_token_character value

-- Returns whether a text is the rest of a quoted string: characters and the closing quote. A
-- backslash and the next character are an escape; the flag says that a backslash is before the
-- text.
abbrev pub closes_quotes : Bool → List ℕ → Bool
closes_quotes escaped [] = false
closes_quotes true (c ∷ cs) = is_not_control c && closes_quotes false cs
closes_quotes false (c ∷ cs) =
    if c == quote_mark then is_empty cs else is_not_control c && closes_quotes (c == backslash) cs

-- Returns whether a text is a value in quotes (RFC 6690 section 2, quoted-string).
abbrev pub is_quoted_string : List ℕ → Bool
is_quoted_string [] = false
is_quoted_string (c ∷ cs) = c == quote_mark && closes_quotes false cs

-- Returns whether there is no value, or it is one of the grammar.
abbrev pub is_value : Option (List ℕ) → Bool
is_value None = true
is_value (Some value) = is_token value || is_quoted_string value

-- Returns whether a parameter is one of the grammar.
abbrev pub is_parameter : Parameter → Bool
is_parameter p = is_parameter_name p.name && is_value p.value

-- Returns whether a link is one of the grammar.
abbrev pub is_link : Link → Bool
is_link l = list_all is_target_character l.target && list_all is_parameter l.parameters

-- A document with these links: the octets are UTF-8, and the text of links of the grammar.
pub record IsDocument (bytes : List ℕ) (links : List Link) : Type 0 where
  pub utf8 : IsUtf8 bytes
  pub spelled : bytes ≡ document_text links
  pub each : list_all is_link links ≡ true

-- States that the octets begin some document.
abbrev pub BeginsDocument : List ℕ → Type 0
BeginsDocument bytes = (more : List ℕ) × (links : List Link) × IsDocument (bytes ++ more) links

-- The longest prefix that begins some document: the first `n` octets.
pub record IsGoodPrefix (bytes : List ℕ) (n : ℕ) : Type 0 where
  pub within : n ≤ length bytes
  pub begins : BeginsDocument (take n bytes)
  pub longest : (m : ℕ) → n < m → m ≤ length bytes → ¬ (BeginsDocument (take m bytes))
