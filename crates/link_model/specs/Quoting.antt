-- The meaning of a link's parameters: values without quotes, anchors, attributes, and links as a
-- device submitted them (RFC 6690 sections 2 and 3).
use Rattle.std.specs.Prelude.{
  ℕ,
  Bool,
  true,
  false,
  ◌||◌,
  ◌==◌,
  List,
  [],
  ◌∷◌,
  ◌++◌,
  map,
  flat_map,
  filter,
  find,
  not,
  codes,
  Option,
  Some,
  None,
  option_map,
  bytes_eq,
  if◌then◌else◌,
}
use Rattle.rd_base.specs.declared.attributes.Pair.{Pair}
use Rattle.rd_base.specs.declared.submitted_links.SubmittedLink.{SubmittedLink}
pub use Rattle.rd_base.specs.LinkLines.{escaped_character}
unfoldable pub use Rattle.rd_base.specs.LinkLines.{quoted}
use Rattle.link_model.specs.Characters.{quote_mark, backslash}
use Rattle.link_model.specs.Documents.{Parameter, Link, parameters_text}
use Rattle.link_model.specs.DocumentReading.{document}

-- Returns the text after an octet with the octet before it, except a backslash that escapes.
abbrev pub kept_before : ℕ → List ℕ → List ℕ
kept_before c rest = if c == backslash then rest else c ∷ rest

-- Returns the characters up to the closing quote, each escape replaced by the character that it
-- escapes. The flag says that a backslash is before the text.
abbrev pub content_up_to_quote : Bool → List ℕ → List ℕ
content_up_to_quote escaped [] = []
content_up_to_quote true (c ∷ cs) = c ∷ content_up_to_quote false cs
content_up_to_quote false (c ∷ cs) =
    if c == quote_mark then [] else kept_before c (content_up_to_quote (c == backslash) cs)

-- Returns what a value stands for: of a token the token itself, and of a quoted string its content
-- without escapes.
unfoldable pub unquoted : List ℕ → List ℕ
unquoted [] = []
unquoted (c ∷ cs) = if c == quote_mark then content_up_to_quote false cs else c ∷ cs

-- Returns the value of a parameter, which is empty if it has none.
abbrev pub value_of : Parameter → List ℕ
value_of p = unquoted_value p.value
  where
    unquoted_value : Option (List ℕ) → List ℕ
    unquoted_value None = []
    unquoted_value (Some value) = unquoted value

-- Returns whether a parameter is named `anchor`.
abbrev pub is_anchor : Parameter → Bool
is_anchor p = bytes_eq p.name (codes "anchor")

-- Returns a link's anchor: the value of its first parameter `anchor`. Later ones do not count (RFC
-- 6690 section 3.2).
abbrev pub anchor : Link → Option (List ℕ)
anchor l = option_map value_of (find is_anchor l.parameters)

-- Returns a link's attributes: its parameters except anchors, in order.
abbrev pub attributes : Link → List Parameter
attributes l = filter (λ p. not (is_anchor p)) l.parameters

-- Returns an attribute's name with its value.
abbrev pub pair_of : Parameter → Pair
pair_of p = record { name = p.name; value = value_of p }

-- Returns a link as a device submitted it.
unfoldable pub submitted_link : Link → SubmittedLink
submitted_link l = record {
  target_ref = l.target;
  anchor_ref = anchor l;
  raw = parameters_text (attributes l);
  pairs = map pair_of (attributes l);
}

-- Returns the links of a body as a device submitted them, or `None` if the body is no document.
unfoldable pub submitted_links : List ℕ → Option (List SubmittedLink)
submitted_links body = option_map (map submitted_link) (document body)
