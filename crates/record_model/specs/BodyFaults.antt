-- The first fault of a registration's body, with its offset or the index of its link (RFC 6690
-- section 2, RFC 3986 section 4.1, RFC 9176 appendix C).
use Rattle.std.specs.Prelude.{
  ℕ,
  ◌+◌,
  Bool,
  true,
  false,
  not,
  List,
  [],
  ◌∷◌,
  ◌++◌,
  length,
  map,
  find,
  Option,
  Some,
  None,
  option_map,
  if◌then◌else◌,
}
use Rattle.link_model.specs.Characters.{quote_mark}
use Rattle.reference_model.specs.References.{begins_with}
use Rattle.link_model.specs.Documents.{Parameter, Link, parameter_text, link_text}
use Rattle.link_model.specs.DocumentReading.{document, good_prefix}
use Rattle.link_model.specs.Quoting.{value_of, is_anchor, submitted_link}
use Rattle.record_model.specs.Bodies.{is_reference}
use Rattle.record_model.specs.Refusals.{first_unlimited}

-- The fault of a body: it is no document from this octet on, or the reference that begins at this
-- octet is none. Or this link, counted from 0, is not in the Limited Link Format.
pub data BodyFault : Type 0 where
  no_document : ℕ → BodyFault
  no_reference : ℕ → BodyFault
  not_limited : ℕ → BodyFault

-- A text with its offset in the document, in octets.
abbrev pub TextAtOffset : Type 0
TextAtOffset = ℕ × List ℕ

-- Returns the texts with offsets that are `n` octets higher.
abbrev pub shifted : ℕ → List TextAtOffset → List TextAtOffset
shifted n references = map (λ r. (n + r.0, r.1)) references

-- Returns how many octets precede the content of a value: its quote, if it has one.
abbrev pub quote_length : Option (List ℕ) → ℕ
quote_length None = 0
quote_length (Some value) = if begins_with quote_mark value then 1 else 0

-- Returns the first anchor among parameters, with its offset: after the semicolon, the name, the
-- equals sign, and the quote.
abbrev pub anchor_offset : List Parameter → List TextAtOffset
anchor_offset [] = []
anchor_offset (p ∷ parameters) =
    if is_anchor p then (length p.name + 2 + quote_length p.value, value_of p) ∷ []
    else shifted (length (parameter_text p)) (anchor_offset parameters)

-- Returns the references of a link with their offsets: its target, and its anchor if it has one.
abbrev pub link_references : Link → List TextAtOffset
link_references l = (1, l.target) ∷ shifted (length l.target + 2) (anchor_offset l.parameters)

-- Returns the references of links with their offsets in the document, with a comma between two
-- links.
unfoldable pub references_of : List Link → List TextAtOffset
references_of [] = []
references_of (l ∷ links) =
    link_references l ++ shifted (length (link_text l) + 1) (references_of links)

-- Returns the offset of the first reference that is no URI-reference.
unfoldable pub first_no_reference : List Link → Option ℕ
first_no_reference links =
    option_map (λ r. r.0) (find (λ r. not (is_reference r.1)) (references_of links))

-- Returns the first fault of links: one of their references, or else of the Limited Link Format.
abbrev pub reference_or_limited : Option ℕ → List Link → Option BodyFault
reference_or_limited (Some offset) links = Some (no_reference offset)
reference_or_limited None links =
    option_map not_limited (first_unlimited (map submitted_link links))

-- Returns the first fault of what was read of a body: first that it is no document, then a fault of
-- its links.
abbrev pub document_or_links : Option (List Link) → List ℕ → Option BodyFault
document_or_links None body = Some (no_document (good_prefix body))
document_or_links (Some links) body = reference_or_limited (first_no_reference links) links

-- Returns the fault of a body.
unfoldable pub body_fault : List ℕ → Option BodyFault
body_fault body = document_or_links (document body) body

-- Returns whether the fault is one of the document or of a reference.
abbrev pub is_of_links : Option BodyFault → Bool
is_of_links (Some (no_document offset)) = true
is_of_links (Some (no_reference offset)) = true
is_of_links _ = false

-- Returns whether the fault is one of the Limited Link Format.
abbrev pub is_of_limits : Option BodyFault → Bool
is_of_limits (Some (not_limited index)) = true
is_of_limits _ = false
