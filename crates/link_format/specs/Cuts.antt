-- Cuts of a text at a separator, which does not count in quoted strings (RFC 6690 section 2).
use Rattle.std.specs.Prelude.{
  ℕ,
  suc,
  Bool,
  true,
  false,
  ◌&&◌,
  ◌==◌,
  List,
  [],
  ◌∷◌,
  Option,
  Some,
  None,
  if◌then◌else◌,
}
use Rattle.link_model.specs.Characters.{quote_mark, backslash}
use Rattle.link_format.specs.declared.cuts.Quotes.{Quotes}
use Rattle.link_format.specs.declared.cuts.Quotes.TheVariants.{
  Unread,
  Leading,
  Outside,
  Inside,
  Escaped,
}

-- Returns whether an octet that is read in this state is outside quoted strings.
abbrev pub is_outside : Quotes → Bool
is_outside Unread = true
is_outside Leading = false
is_outside Outside = true
is_outside Inside = false
is_outside Escaped = false

-- Returns the state in which the text after an octet is read.
abbrev pub quotes_after : Quotes → ℕ → Quotes
quotes_after Unread b = Unread
quotes_after Leading b = Outside
quotes_after Outside b = if b == quote_mark then Inside else Outside
quotes_after Inside b =
    if b == quote_mark then Outside else (if b == backslash then Escaped else Inside)
quotes_after Escaped b = Inside

-- Returns whether the octet is the separator, outside quoted strings.
abbrev pub is_separator : ℕ → Quotes → ℕ → Bool
is_separator separator quotes b = b == separator && is_outside quotes

-- Returns the number of octets before the first separator, or of all octets if there is none.
unfoldable pub octets_before : ℕ → Quotes → List ℕ → ℕ
octets_before separator quotes [] = 0
octets_before separator quotes (b ∷ bs) =
    if is_separator separator quotes b
    then 0
    else suc (octets_before separator (quotes_after quotes b) bs)

-- Returns the two texts, with an octet added at the beginning of the first.
abbrev pub onto_before : ℕ → List ℕ × Option (List ℕ) → List ℕ × Option (List ℕ)
onto_before b parts = (b ∷ parts.0, parts.1)

-- Returns the text before the first separator, and the text after it if there is one.
unfoldable pub cut : ℕ → Quotes → List ℕ → List ℕ × Option (List ℕ)
cut separator quotes [] = ([], None)
cut separator quotes (b ∷ bs) =
    if is_separator separator quotes b
    then ([], Some bs)
    else onto_before b (cut separator (quotes_after quotes b) bs)

-- Returns the text from a separator on, given the text after it, or the empty text if there is
-- none.
abbrev pub from_separator : ℕ → Option (List ℕ) → List ℕ
from_separator separator None = []
from_separator separator (Some after) = separator ∷ after
