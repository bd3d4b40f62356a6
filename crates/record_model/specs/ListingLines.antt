-- The lines of a listing: what one record contributes, how a line is written, and what a record
-- weighs (RFC 9176 sections 6.3 and 6.4).
use Rattle.std.specs.Prelude.{
  ℕ,
  ◌+◌,
  ◌*◌,
  Bool,
  ◌||◌,
  List,
  [],
  ◌∷◌,
  ◌++◌,
  length,
  take,
  drop,
  map,
  filter,
  flat_map,
  sum_by,
  codes,
  Option,
  Some,
  None,
  unwrap_or,
  if◌then◌else◌,
  bytes_eq,
}
use Rattle.std.specs.List.{list_any, list_all, join_with_byte}
use lib.Pointwise.{pointwise}
use Rattle.rd_base.specs.declared.attributes.Pair.{Pair}
use Rattle.rd_base.specs.declared.queries.Kind.{Kind}
use Rattle.rd_base.specs.declared.queries.Kind.TheVariants as kind
use Rattle.rd_base.specs.declared.queries.Query.{Query}
use Rattle.rd_base.specs.declared.records.Item.{Item}
use Rattle.rd_base.specs.declared.records.Record.{Record}
use Rattle.link_model.specs.Characters.{comma, is_empty}
pub use Rattle.rd_base.specs.LinkLines.{anchor_text, bracketed}
unfoldable pub use Rattle.rd_base.specs.LinkLines.{link_line}
use Rattle.link_model.specs.Quoting.{quoted}
use Rattle.record_model.specs.Matching.{
  link_matches,
  endpoint_matches,
  endpoint_type,
  location,
  sector_pairs,
}

-- Returns whether each criterion matches the link by itself or its endpoint by itself (RFC 9176
-- section 6.2).
unfoldable pub link_listed : Query → Record → Item → Bool
link_listed query r item =
    list_all (λ criterion. link_matches criterion item || endpoint_matches criterion r)
    query.criteria

-- Returns whether each criterion matches the endpoint by itself or any one of its links by itself.
unfoldable pub endpoint_listed : Query → Record → Bool
endpoint_listed query r =
    list_all
    (λ criterion. endpoint_matches criterion r || list_any (link_matches criterion) r.items)
    query.criteria

-- Returns an attribute with its value in quotes.
abbrev pub quoted_attribute : Pair → List ℕ
quoted_attribute pair = codes ";" ++ (pair.name ++ (codes "=" ++ quoted pair.value))

-- Returns an extra attribute: its name alone if its value is empty.
abbrev pub extra_attribute : Pair → List ℕ
extra_attribute pair = if is_empty pair.value then codes ";" ++ pair.name else quoted_attribute pair

-- Returns the attributes of an endpoint that every registration has.
abbrev pub own_pairs : Record → List Pair
own_pairs r =
    record { name = codes "base"; value = r.base } ∷ record { name = codes "ep"; value = r.name.ep }
    ∷ (sector_pairs r.name.sector ++ (record { name = codes "rt"; value = endpoint_type } ∷ []))

-- Returns the line of an endpoint: its location, base, name, sector if it has one, type, and its
-- extra attributes.
unfoldable pub endpoint_line : Record → List ℕ
endpoint_line r =
    bracketed (location r.number)
    ++ (flat_map quoted_attribute (own_pairs r) ++ flat_map extra_attribute r.attrs)

-- Returns the lines that a record contributes to a query of each kind.
abbrev pub part_of_kind : Kind → Query → Record → List (List ℕ)
part_of_kind kind.Resource query r = map link_line (filter (link_listed query r) r.items)
part_of_kind kind.Endpoint query r = if endpoint_listed query r then endpoint_line r ∷ [] else []
part_of_kind kind.Discovery query r = []

-- Returns the lines that a record contributes to a query.
unfoldable pub part : Query → Record → List (List ℕ)
part query r = part_of_kind query.kind query r

-- Returns the lines that a registration contributes to a query, if there is one.
abbrev pub part_or_none : Query → Option Record → List (List ℕ)
part_or_none query None = []
part_or_none query (Some r) = part query r

-- Returns whether the lines are the same, in the same order.
abbrev pub same_lines : List (List ℕ) → List (List ℕ) → Bool
same_lines = pointwise bytes_eq

-- Returns the weight of a record in octets: its endpoint line and each of its link lines, each with
-- one octet more for a comma.
unfoldable pub weight : Record → ℕ
weight r = length (endpoint_line r) + 1 + sum_by (λ item. length (link_line item) + 1) r.items

-- Returns the lines of one page, counted from 0, of at most `count` lines. Without a count these
-- are all lines.
abbrev pub page_of : Option ℕ → Option ℕ → List (List ℕ) → List (List ℕ)
page_of page None lines = lines
page_of page (Some count) lines = take count (drop (unwrap_or page 0 * count) lines)

-- Returns the listing that a query shows of its lines: cut by page and count, and joined by commas.
unfoldable pub shown : Query → List (List ℕ) → List ℕ
shown query lines = join_with_byte comma (page_of query.page query.count lines)
