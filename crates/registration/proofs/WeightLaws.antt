-- The octets of lines, part by part.
use Rattle.std.proofs.Common.{
  ◌≡◌,
  ℕ,
  ◌+◌,
  ◌==◌,
  ◌||◌,
  Bool,
  true,
  false,
  List,
  ◌∷◌,
  map,
  sym,
  ◌++◌,
  [],
  length,
  filter,
  if◌then◌else◌,
  flat_map,
  sum_by,
  decimal,
  codes,
  refl,
  ap,
  ◌∙◌,
  arith,
  length-append,
}
use Rattle.std.proofs.lemmas.Grind.{flat_map-append}
use Rattle.rd_base.specs.declared.attributes.Pair.{Pair}
use Rattle.rd_base.specs.declared.moments.Moment.{Moment}
use Rattle.rd_base.specs.declared.records.Item.{Item}
use Rattle.link_model.specs.Characters.{quote_mark, backslash}
use Rattle.rd_base.specs.LinkLines.{comma, listed}
use Rattle.std.specs.Prelude.{IsTrue, ◌↔◌}
use Rattle.std.specs.List.{join_with_byte}
use Rattle.std.proofs.lemmas.List.Sums.{sum_by-cons}
use Rattle.record_model.specs.ListingLines.{
  link_line,
  endpoint_line,
  weight,
  quoted_attribute,
  extra_attribute,
}
use Rattle.record_model.specs.Matching.{location, sector_pairs}
use Rattle.link_model.specs.Quoting.{quoted, escaped_character}
use Rattle.registration.specs.Drafts.{recorded}
use Rattle.registration.specs.declared.drafts.Draft.{Draft}

-- a text in quotes
pub quoted_size : (text : List ℕ)
    → length (quoted text) ≡ 2 + length (flat_map escaped_character text)
unfolding quoted
quoted_size text =
    let joined = length-append (flat_map escaped_character text) (quote_mark ∷ []) in
    omega (arith, joined)

-- a text has an octet more for each mark
pub marks_size : (text : List ℕ)
    → length (flat_map escaped_character text)
    ≡ length text + length (filter (λ c. c == quote_mark || c == backslash) text)
marks_size [] = refl
marks_size (c ∷ cs) =
    let rest = marks_size cs in
    one (c == quote_mark || c == backslash) c (flat_map escaped_character cs) cs
    (filter (λ d. d == quote_mark || d == backslash) cs) rest
  where
    one : (b : Bool) (c : ℕ) (spelled text marks : List ℕ)
        → length spelled ≡ length text + length marks
        → length ((if b then backslash ∷ c ∷ [] else c ∷ []) ++ spelled)
        ≡ length (c ∷ text) + length (if b then c ∷ marks else marks)
    one true c spelled text marks e = omega (arith, e)
    one false c spelled text marks e = omega (arith, e)

-- the type of an endpoint
pub typed_size :
    length (quoted_attribute (record { name = codes "rt"; value = codes "core.rd-ep" })) ≡ 16
unfolding quoted
typed_size = refl

-- links: their lines with commas between them, and one octet more
pub listed_size : (item : Item) (items : List Item)
    → length (listed (item ∷ items)) + 1
    ≡ sum_by (λ item. length (link_line item) + 1) (item ∷ items)
unfolding listed
listed_size item [] =
    let all = sum_by-cons (λ (i : Item). length (link_line i) + 1) item [] in omega (arith, all)
listed_size item (next ∷ items) =
    let all = sum_by-cons (λ (i : Item). length (link_line i) + 1) item (next ∷ items) in
    let joined =
    length-append (link_line item)
    (comma ∷ join_with_byte comma (map link_line (next ∷ items))) in
    let rest = listed_size next items in
    omega (arith, all, joined, rest)

pub links_size : (items : List Item) (b : Bool)
    → (IsTrue b ↔ (items ≡ []))
    → b ≡ false
    → length (listed items) + 1 ≡ sum_by (λ item. length (link_line item) + 1) items
links_size [] b h e = absurd (wrong (sym e ∙ h.1 refl))
  where
    wrong : false ≡ true → ⊥
    wrong same = cc
links_size (item ∷ items) b h e = listed_size item items

-- the line of an endpoint, part by part
pub endpoint_size : (number : ℕ) (now : Moment) (draft : Draft)
    → length (endpoint_line (recorded number now draft))
    ≡ 6
    + length (decimal number)
    + length (quoted_attribute (record { name = codes "base"; value = draft.base }))
    + length (quoted_attribute (record { name = codes "ep"; value = draft.name.ep }))
    + length (flat_map quoted_attribute (sector_pairs draft.name.sector))
    + length (quoted_attribute (record { name = codes "rt"; value = codes "core.rd-ep" }))
    + length (flat_map extra_attribute draft.attrs)
unfolding endpoint_line location recorded
endpoint_size number now draft =
    let based : Pair = record { name = codes "base"; value = draft.base } in
    let named : Pair = record { name = codes "ep"; value = draft.name.ep } in
    let typed : Pair = record { name = codes "rt"; value = codes "core.rd-ep" } in
    let sectors = sector_pairs draft.name.sector in
    let last = length-append (quoted_attribute typed) [] in
    let three :
    length (flat_map quoted_attribute (sectors ++ typed ∷ []))
    ≡ length (flat_map quoted_attribute sectors) + length (quoted_attribute typed) =
    ap length (flat_map-append quoted_attribute sectors (typed ∷ []))
    ∙ length-append (flat_map quoted_attribute sectors) (quoted_attribute typed ++ [])
    ∙ ap (λ (n : ℕ). length (flat_map quoted_attribute sectors) + n)
    (last ∙ add_nothing (length (quoted_attribute typed))) in
    let two =
    length-append (quoted_attribute named)
    (flat_map quoted_attribute (sectors ++ typed ∷ [])) in
    let one =
    length-append (quoted_attribute based)
    (quoted_attribute named ++ flat_map quoted_attribute (sectors ++ typed ∷ [])) in
    let own : List ℕ = flat_map quoted_attribute (based ∷ named ∷ (sectors ++ typed ∷ [])) in
    let extras : List ℕ = flat_map extra_attribute draft.attrs in
    let four = length-append own extras in
    let offset = length-append (codes "/rd/" ++ decimal number) (codes ">") in
    let digits = length-append (codes "/rd/") (decimal number) in
    let whole =
    length-append (codes "<" ++ ((codes "/rd/" ++ decimal number) ++ codes ">"))
    (own ++ extras) in
    omega (arith, one, two, three, four, offset, digits, whole)
  where
    add_nothing : (n : ℕ) → n + 0 ≡ n
    add_nothing n = omega arith

-- a draft weighs its endpoint line and its link lines, each with one octet more
pub weight_parts : (number : ℕ) (now : Moment) (draft : Draft)
    → weight (recorded number now draft)
    ≡ length (endpoint_line (recorded number now draft))
    + 1
    + sum_by (λ item. length (link_line item) + 1) draft.items
unfolding weight recorded
weight_parts number now draft = refl
