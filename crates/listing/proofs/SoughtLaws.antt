-- What is sought of a criterion is found exactly in the links that it matches.
use Rattle.std.proofs.Common.{
  ◌≡◌,
  ℕ,
  Bool,
  true,
  false,
  ◌&&◌,
  bytes_eq,
  codes,
  List,
  Option,
  Some,
  None,
  refl,
  sym,
  ap,
  ◌∙◌,
}
use Rattle.std.specs.List.{list_any}
use Rattle.rd_base.specs.declared.attributes.Pair.{Pair}
use Rattle.rd_base.specs.declared.queries.Criterion.{Criterion}
use Rattle.rd_base.specs.declared.records.Item.{Item}
use Rattle.record_model.specs.Matching.{
  link_matches,
  list_names,
  matches_named,
  matches_pairs,
  matches_present,
  matches_value,
  parts_of,
}
use Rattle.record_model.specs.Options.{is_among}
use Rattle.listing.specs.declared.patterns.Pattern.{Pattern}
use Rattle.listing.specs.Patterns.{fits}
use Rattle.listing.specs.SoughtLinks.{fits_present, has_part, has_value}
use Rattle.listing.proofs.PatternLaws.{any_same, named_part, named_whole}

-- a pattern that was cut says of each value what the pattern says
abbrev pub IsCut : Pattern → List ℕ → Type 0
IsCut pattern text = (value : List ℕ) → fits pattern value ≡ matches_value text value

-- a criterion of a name is about what its name is about
named : (test : List ℕ → Bool) (name other : List ℕ) (b : Bool)
    → name ≡ other
    → test name ≡ b
    → test other ≡ b
named test name other b same e = ap test (sym same) ∙ e

-- a target is sought
pub target_sought : (criterion : Criterion) (name text : List ℕ) (pattern : Pattern) (item : Item)
    → name ≡ criterion.name
    → text ≡ criterion.pattern
    → bytes_eq name (codes "href") ≡ true
    → IsCut pattern text
    → fits pattern item.target ≡ link_matches criterion item
unfolding link_matches
target_sought criterion name text pattern item same told href cut =
    let about = named (λ n. bytes_eq n (codes "href")) name criterion.name true same href in
    rw about (cut item.target ∙ ap (λ (t : List ℕ). matches_value t item.target) told)

-- a text that may be there
present_same : (text : List ℕ) (pattern : Pattern) (value : Option (List ℕ))
    → IsCut pattern text
    → fits_present pattern value ≡ matches_present text value
present_same text pattern None cut = refl
present_same text pattern (Some value) cut = cut value

-- an anchor is sought
pub anchor_sought : (criterion : Criterion) (name text : List ℕ) (pattern : Pattern) (item : Item)
    → name ≡ criterion.name
    → text ≡ criterion.pattern
    → bytes_eq name (codes "href") ≡ false
    → bytes_eq name (codes "anchor") ≡ true
    → IsCut pattern text → fits_present pattern item.anchor ≡ link_matches criterion item
unfolding link_matches
anchor_sought criterion name text pattern item same told href anchor cut =
    let other = named (λ n. bytes_eq n (codes "href")) name criterion.name false same href in
    let about = named (λ n. bytes_eq n (codes "anchor")) name criterion.name true same anchor in
    rw (other, about) (present_same text pattern item.anchor cut
    ∙ ap (λ (t : List ℕ). matches_present t item.anchor) told)

-- attributes that are matched by a test of their values
pairs_same : (name text : List ℕ) (test : List ℕ → Bool) (pairs : List Pair)
    → ((value : List ℕ) → test value ≡ matches_named name text value)
    → list_any (λ pair. bytes_eq pair.name name && test pair.value) pairs
    ≡ matches_pairs (record { name = name; pattern = text }) pairs
pairs_same name text test pairs same =
    any_same (λ pair. bytes_eq pair.name name && test pair.value)
    (λ pair. bytes_eq pair.name name && matches_named name text pair.value)
    (λ pair. ap (λ b. bytes_eq pair.name name && b) (same pair.value)) pairs

-- an attribute is sought by such a test
by_attribute : (criterion : Criterion) (name text : List ℕ) (test : List ℕ → Bool) (item : Item)
    → name ≡ criterion.name
    → text ≡ criterion.pattern
    → bytes_eq name (codes "href") ≡ false
    → bytes_eq name (codes "anchor") ≡ false
    → ((value : List ℕ) → test value ≡ matches_named name text value)
    → list_any (λ pair. bytes_eq pair.name name && test pair.value) item.pairs
    ≡ link_matches criterion item
unfolding link_matches
by_attribute criterion name text test item same told href anchor tested =
    let other = named (λ n. bytes_eq n (codes "href")) name criterion.name false same href in
    let neither = named (λ n. bytes_eq n (codes "anchor")) name criterion.name false same anchor in
    rw (other, neither) (pairs_same name text test item.pairs tested
    ∙ ap (λ (n : List ℕ). matches_pairs (record { name = n; pattern = text }) item.pairs) same
    ∙ ap (λ (t : List ℕ). matches_pairs (record { name = criterion.name; pattern = t }) item.pairs)
    told)

-- a part of a value is sought
pub part_sought : (criterion : Criterion) (name text : List ℕ) (pattern : Pattern) (item : Item)
    → name ≡ criterion.name
    → text ≡ criterion.pattern
    → bytes_eq name (codes "href") ≡ false
    → bytes_eq name (codes "anchor") ≡ false
    → is_among list_names name ≡ true
    → IsCut pattern text
    → has_part name pattern item.pairs ≡ link_matches criterion item
part_sought criterion name text pattern item same told href anchor among cut =
    by_attribute criterion name text (λ value. list_any (fits pattern) (parts_of value)) item same
    told href anchor (λ value. named_part name text value (fits pattern) among cut)

-- a value is sought
pub value_sought : (criterion : Criterion) (name text : List ℕ) (pattern : Pattern) (item : Item)
    → name ≡ criterion.name
    → text ≡ criterion.pattern
    → bytes_eq name (codes "href") ≡ false
    → bytes_eq name (codes "anchor") ≡ false
    → is_among list_names name ≡ false
    → IsCut pattern text
    → has_value name pattern item.pairs ≡ link_matches criterion item
value_sought criterion name text pattern item same told href anchor among cut =
    by_attribute criterion name text (fits pattern) item same told href anchor
    (λ value. named_whole name text value (fits pattern) among cut)
