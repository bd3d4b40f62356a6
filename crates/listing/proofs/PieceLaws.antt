-- Lines, as their pieces in a row.
use Rattle.std.proofs.Common.{
  ◌≡◌,
  ℕ,
  true,
  false,
  List,
  [],
  ◌∷◌,
  ◌++◌,
  flat_map,
  codes,
  Some,
  None,
  refl,
  sym,
  ap,
  ◌∙◌,
  append_assoc,
}
use Rattle.rd_base.specs.declared.attributes.Pair.{Pair}
use Rattle.rd_base.specs.declared.records.Item.{Item}
use Rattle.rd_base.specs.declared.records.Record.{Record}
use Rattle.link_model.specs.Characters.{is_empty}
use Rattle.link_model.specs.Quoting.{escaped_character, quoted}
use Rattle.record_model.specs.Matching.{location}
use Rattle.record_model.specs.ListingLines.{
  anchor_text,
  bracketed,
  endpoint_line,
  extra_attribute,
  link_line,
  own_pairs,
  quoted_attribute,
}
use Rattle.listing.specs.Pieces.{own_line}

-- a text with its last octet, before what follows
seam : (text rest more : List ℕ) (c : ℕ) → rest ≡ more → text ++ c ∷ rest ≡ (text ++ c ∷ []) ++ more
seam text rest more c same =
    sym (append_assoc text (c ∷ []) rest) ∙ ap (λ (r : List ℕ). (text ++ c ∷ []) ++ r) same

-- what follows a literal
after : (literal : List ℕ) {rest more : List ℕ} → rest ≡ more → literal ++ rest ≡ literal ++ more
after literal same = ap (λ (r : List ℕ). literal ++ r) same

-- the line of an endpoint with a sector, before its extra attributes
pub own_with_sector : (r : Record) (location_text base name sector spelled : List ℕ)
    → base ≡ r.base
    → name ≡ r.name.ep
    → sector ≡ spelled
    → r.name.sector ≡ Some spelled
    → location_text ≡ location r.number
    → 60
    ∷ (location_text
    ++ (codes ">;base=\""
    ++ (flat_map escaped_character base
    ++ (codes "\";ep=\""
    ++ (flat_map escaped_character name
    ++ (codes "\";d=\""
    ++ (flat_map escaped_character sector
    ++ codes "\";rt=\"core.rd-ep\"")))))))
    ≡ own_line r
unfolding own_line quoted
own_with_sector r location_text base name sector spelled e f g h i =
    let four =
    seam (flat_map escaped_character spelled) (codes ";rt=\"core.rd-ep\"")
    (codes ";rt=\"core.rd-ep\"") 34 refl in
    let three = seam (flat_map escaped_character r.name.ep) _ _ 34 (after (codes ";d=\"") four) in
    let two = seam (flat_map escaped_character r.base) _ _ 34 (after (codes ";ep=\"") three) in
    let one = seam (location r.number) _ _ 62 (after (codes ";base=\"") two) in
    rw (e, f, g, h, i) (after (60 ∷ []) one)

-- and of one without
pub own_without_sector : (r : Record) (location_text base name : List ℕ)
    → base ≡ r.base
    → name ≡ r.name.ep
    → r.name.sector ≡ None
    → location_text ≡ location r.number
    → 60
    ∷ (location_text
    ++ (codes ">;base=\""
    ++ (flat_map escaped_character base
    ++ (codes "\";ep=\""
    ++ (flat_map escaped_character name ++ codes "\";rt=\"core.rd-ep\"")))))
    ≡ own_line r
unfolding own_line quoted
own_without_sector r location_text base name e f h i =
    let three =
    seam (flat_map escaped_character r.name.ep) (codes ";rt=\"core.rd-ep\"")
    (codes ";rt=\"core.rd-ep\"") 34 refl in
    let two = seam (flat_map escaped_character r.base) _ _ 34 (after (codes ";ep=\"") three) in
    let one = seam (location r.number) _ _ 62 (after (codes ";base=\"") two) in
    rw (e, f, h, i) (after (60 ∷ []) one)

-- an extra attribute with a value
pub extra_with_value : (pair : Pair) (name value : List ℕ)
    → name ≡ pair.name
    → value ≡ pair.value
    → is_empty pair.value ≡ false
    → 59 ∷ (name ++ (codes "=\"" ++ (flat_map escaped_character value ++ 34 ∷ [])))
    ≡ extra_attribute pair
unfolding quoted
extra_with_value pair name value e f h = rw (e, f, h) refl

-- a text of which it is not so that it is empty
pub is_some_text : (text : List ℕ) → ((text ≡ []) → false ≡ true) → is_empty text ≡ false
is_some_text [] h = sym (h refl)
is_some_text (c ∷ cs) h = refl

-- the line of an endpoint after a text
pub endpoint_whole : (r : Record) (text : List ℕ)
    → (text ++ own_line r) ++ flat_map extra_attribute r.attrs ≡ text ++ endpoint_line r
unfolding own_line endpoint_line
endpoint_whole r text =
    append_assoc text _ (flat_map extra_attribute r.attrs)
    ∙ after text
    (append_assoc (bracketed (location r.number)) (flat_map quoted_attribute (own_pairs r))
    (flat_map extra_attribute r.attrs))

-- a link's line begins with a bracket
pub link_line_begins : (item : Item) → (rest : List ℕ) × (link_line item ≡ 60 ∷ rest)
unfolding link_line
link_line_begins item = ((item.target ++ 62 ∷ []) ++ (item.raw ++ anchor_text item.anchor), refl)

-- an endpoint's line begins with a bracket
pub endpoint_line_begins : (r : Record) → (rest : List ℕ) × (endpoint_line r ≡ 60 ∷ rest)
unfolding endpoint_line
endpoint_line_begins r = (
  (location r.number ++ 62 ∷ [])
      ++ (flat_map quoted_attribute (own_pairs r) ++ flat_map extra_attribute r.attrs),
  refl,
)

-- the line of an endpoint is all of these
pub endpoint_parts : (r : Record) → own_line r ++ flat_map extra_attribute r.attrs ≡ endpoint_line r
unfolding own_line endpoint_line
endpoint_parts r =
    append_assoc (bracketed (location r.number)) (flat_map quoted_attribute (own_pairs r))
    (flat_map extra_attribute r.attrs)
