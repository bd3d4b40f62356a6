-- Whether a criterion matches a link by itself, or an endpoint by itself (RFC 6690 section 4.1, RFC
-- 9176 section 6.2).
use Rattle.std.specs.Prelude.{
  ℕ,
  Bool,
  false,
  not,
  ◌&&◌,
  ◌==◌,
  List,
  [],
  ◌∷◌,
  ◌++◌,
  filter,
  codes,
  decimal,
  Option,
  Some,
  None,
  option_map,
  if◌then◌else◌,
  bytes_eq,
  nat_eq,
}
use Rattle.std.specs.List.{list_any, slice_split, starts_with}
use Rattle.rd_base.specs.declared.attributes.Pair.{Pair}
use Rattle.rd_base.specs.declared.queries.Criterion.{Criterion}
use Rattle.rd_base.specs.declared.records.Item.{Item}
use Rattle.rd_base.specs.declared.records.Record.{Record}
use Rattle.link_model.specs.Characters.{asterisk, is_empty}
use Rattle.record_model.specs.Options.{is_among}

-- The space between the parts of a value.
abbrev pub space : ℕ
space = 32

-- Returns what precedes an asterisk that ends a pattern, if one does.
abbrev pub before_wildcard : List ℕ → Option (List ℕ)
before_wildcard [] = None
before_wildcard (c ∷ []) = if c == asterisk then Some [] else None
before_wildcard (c ∷ d ∷ cs) = option_map (λ front. c ∷ front) (before_wildcard (d ∷ cs))

-- Returns whether the value begins with what precedes the wildcard, or equals a pattern without
-- one.
abbrev pub is_value_of : Option (List ℕ) → List ℕ → List ℕ → Bool
is_value_of (Some front) pattern value = starts_with nat_eq value front
is_value_of None pattern value = bytes_eq value pattern

-- Returns whether a pattern matches a value. A pattern that ends with an asterisk matches a value
-- that begins with the rest of it; any other matches the equal value (RFC 6690 section 4.1).
unfoldable pub matches_value : List ℕ → List ℕ → Bool
matches_value pattern value = is_value_of (before_wildcard pattern) pattern value

-- The names whose values are lists of parts (RFC 6690 section 2: rel, rev, rt and if).
abbrev pub list_names : List (List ℕ)
list_names = codes "rel" ∷ codes "rev" ∷ codes "rt" ∷ codes "if" ∷ []

-- Returns the parts of a value that are not empty, which spaces separate.
abbrev pub parts_of : List ℕ → List (List ℕ)
parts_of value = filter (λ part. not (is_empty part)) (slice_split (λ c. c == space) value)

-- Returns whether a pattern matches a value of a name: one part of it, if the name's values are
-- lists.
unfoldable pub matches_named : List ℕ → List ℕ → List ℕ → Bool
matches_named name pattern value =
    if is_among list_names name
    then list_any (matches_value pattern) (parts_of value)
    else matches_value pattern value

-- Returns whether the criterion matches one of these attributes, by its name and its value.
abbrev pub matches_pairs : Criterion → List Pair → Bool
matches_pairs criterion pairs =
    list_any (λ pair.
    bytes_eq pair.name criterion.name
    && matches_named criterion.name criterion.pattern pair.value) pairs

-- Returns whether the criterion is about targets.
abbrev pub is_href : Criterion → Bool
is_href criterion = bytes_eq criterion.name (codes "href")

-- Returns whether the criterion is about anchors.
abbrev pub is_anchor_criterion : Criterion → Bool
is_anchor_criterion criterion = bytes_eq criterion.name (codes "anchor")

-- Returns whether there is a text that the pattern matches.
abbrev pub matches_present : List ℕ → Option (List ℕ) → Bool
matches_present pattern None = false
matches_present pattern (Some text) = matches_value pattern text

-- Returns whether a criterion matches a link by itself: by its target, by its anchor, or by one of
-- its attributes.
unfoldable pub link_matches : Criterion → Item → Bool
link_matches criterion item =
    if is_href criterion then matches_value criterion.pattern item.target
    else (if is_anchor_criterion criterion then matches_present criterion.pattern item.anchor
    else matches_pairs criterion item.pairs)

-- Returns the location of a registration, as it appears in a link (RFC 9176 section 5).
unfoldable pub location : ℕ → List ℕ
location number = codes "/rd/" ++ decimal number

-- The resource type of an endpoint (RFC 9176 section 9.3).
abbrev pub endpoint_type : List ℕ
endpoint_type = codes "core.rd-ep"

-- Returns the sector as an attribute, if there is one.
abbrev pub sector_pairs : Option (List ℕ) → List Pair
sector_pairs None = []
sector_pairs (Some text) = record { name = codes "d"; value = text } ∷ []

-- Returns an endpoint's attributes: its base, its name, its sector if it has one, its type, and its
-- extra ones (RFC 9176 section 6.4).
unfoldable pub endpoint_pairs : Record → List Pair
endpoint_pairs r =
    record { name = codes "base"; value = r.base } ∷ record { name = codes "ep"; value = r.name.ep }
    ∷ (sector_pairs r.name.sector
    ++ (record { name = codes "rt"; value = endpoint_type } ∷ r.attrs))

-- Returns whether a criterion matches an endpoint by itself: by its location, or by one of its
-- attributes.
unfoldable pub endpoint_matches : Criterion → Record → Bool
endpoint_matches criterion r =
    if is_href criterion
    then matches_value criterion.pattern (location r.number)
    else matches_pairs criterion (endpoint_pairs r)
