-- The parts of the first link of a document, and of the first parameter of a link (RFC 6690 section
-- 2).
use Rattle.std.specs.Prelude.{ℕ, List, [], Option, Some, None, option_and_then}
use Rattle.link_model.specs.Characters.{
  comma,
  semicolon,
  less_than_sign,
  equals_sign,
  greater_than_sign,
}
use Rattle.link_format.specs.declared.cuts.Quotes.TheVariants.{Unread, Leading, Outside}
use Rattle.link_format.specs.Cuts.{cut, from_separator}

-- Returns the text, or the empty text if there is none.
abbrev pub text_or_empty : Option (List ℕ) → List ℕ
text_or_empty None = []
text_or_empty (Some text) = text

-- Returns a target, the parameters after it, and the links after their comma. `closed` is the text
-- after the `>` of the target.
abbrev pub parts_after : List ℕ → List ℕ → List ℕ × List ℕ × List ℕ
parts_after target closed =
    let parts = cut comma Outside closed in (target, parts.0, text_or_empty parts.1)

-- Returns the parts of a link, given the text after the `<` of its target.
abbrev pub parts_opened : List ℕ → Option (List ℕ × List ℕ × List ℕ)
parts_opened opened =
    let target = cut greater_than_sign Unread opened in
    option_and_then (λ closed. Some (parts_after target.0 closed)) target.1

-- Returns the target of the first link, its parameters, and the links after its comma.
unfoldable pub link_parts : List ℕ → Option (List ℕ × List ℕ × List ℕ)
link_parts text = option_and_then parts_opened (cut less_than_sign Unread text).1

-- Returns a whole parameter, its name and its value, and the parameters after it. `inner` is the
-- text of the parameter after its semicolon.
abbrev pub parts_named : List ℕ → List ℕ → List ℕ → List ℕ × List ℕ × Option (List ℕ) × List ℕ
parts_named raw further inner =
    let named = cut equals_sign Unread inner in (raw, named.0, named.1, further)

-- Returns the whole first parameter, its name, its value if there is one, and the parameters after
-- it.
unfoldable pub parameter_parts : List ℕ → Option (List ℕ × List ℕ × Option (List ℕ) × List ℕ)
parameter_parts text =
    let first = cut semicolon Leading text in
    option_and_then (λ inner. Some (parts_named first.0 (from_separator semicolon first.1) inner))
    (cut semicolon Unread first.0).1
