-- The line of a link: its target in brackets, its attributes as they were written, and its anchor
-- (RFC 6690 section 2, RFC 9176 section 6.4).
use Rattle.std.specs.Prelude.{
  ℕ,
  ◌==◌,
  ◌||◌,
  List,
  [],
  ◌∷◌,
  ◌++◌,
  map,
  flat_map,
  codes,
  Option,
  Some,
  None,
  if◌then◌else◌,
}
use Rattle.std.specs.List.{join_with_byte}
use Rattle.rd_base.specs.declared.records.Item.{Item}

abbrev pub quote_mark : ℕ
quote_mark = 34

abbrev pub comma : ℕ
comma = 44

abbrev pub backslash : ℕ
backslash = 92

-- Returns a character in a quoted string, with a backslash before a quote and a backslash.
abbrev pub escaped_character : ℕ → List ℕ
escaped_character c = if c == quote_mark || c == backslash then backslash ∷ c ∷ [] else c ∷ []

-- Returns the text in quotes (RFC 6690 section 2, quoted-string).
unfoldable pub quoted : List ℕ → List ℕ
quoted text = quote_mark ∷ (flat_map escaped_character text ++ quote_mark ∷ [])

-- Returns a target between its brackets.
abbrev pub bracketed : List ℕ → List ℕ
bracketed target = codes "<" ++ (target ++ codes ">")

-- Returns the anchor of a link, if it has one.
abbrev pub anchor_text : Option (List ℕ) → List ℕ
anchor_text None = []
anchor_text (Some anchor) = codes ";anchor=" ++ quoted anchor

-- Returns a line of its parts: a target, attributes as they were written, and an anchor if there is
-- one.
abbrev pub line_by : List ℕ → List ℕ → Option (List ℕ) → List ℕ
line_by target raw anchor = bracketed target ++ (raw ++ anchor_text anchor)

-- Returns the line of a link: its target, its attributes as they were submitted, and its anchor.
unfoldable pub link_line : Item → List ℕ
link_line item = line_by item.target item.raw item.anchor

-- Returns the line of a link as it was submitted, before any reference was resolved.
unfoldable pub submitted_line : Item → List ℕ
submitted_line item = line_by item.target_ref item.raw item.anchor_ref

-- Returns the lines of links, with commas between them.
unfoldable pub listed : List Item → List ℕ
listed items = join_with_byte comma (map link_line items)

-- Returns the lines of links as they were submitted, with commas between them.
unfoldable pub submitted : List Item → List ℕ
submitted items = join_with_byte comma (map submitted_line items)
