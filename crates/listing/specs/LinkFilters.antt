-- The links that a query lists. A filter first checks the first criterion that does not match the
-- endpoint by itself, and then the criteria after it.
use Rattle.std.specs.Prelude.{◌≡◌, Bool, ◌&&◌, ◌||◌, List, Option, Some, None}
use Rattle.std.specs.List.{list_all}
use Rattle.std.specs.Option.{option_copied}
use Rattle.rd_base.specs.declared.queries.Criterion.{Criterion}
use Rattle.rd_base.specs.declared.queries.Query.{Query}
use Rattle.rd_base.specs.declared.records.Item.{Item}
use Rattle.rd_base.specs.declared.records.Record.{Record}
use Rattle.record_model.specs.Matching.{endpoint_matches, link_matches}
use Rattle.listing.specs.declared.link_filters.LinkFilter.{LinkFilter}
use Rattle.listing.specs.declared.sought.Sought.{Sought}
use Rattle.listing.specs.JudgedEndpoints.{AreJudged, AreJudgedOf}
use Rattle.listing.specs.ListedLinks.{listed_of}
use Rattle.listing.specs.SoughtLinks.{is_found_if_any}

-- Returns whether each criterion matches the link by itself, or its endpoint by itself if there is
-- one.
abbrev pub meets : Option Record → List Criterion → Item → Bool
meets (Some r) criteria item =
    list_all (λ criterion. link_matches criterion item || endpoint_matches criterion r) criteria
meets None criteria item = list_all (λ criterion. link_matches criterion item) criteria

-- The parts into which criteria are cut. `first` is what the first criterion that does not match
-- the endpoint by itself seeks. `rest` has the criteria after it, and `left` the answers for the
-- first of these.
pub record IsSifted (criteria : List Criterion) (answers : List Bool) (first : Option Sought)
    (rest : List Criterion) (left : List Bool) : Type 0 where
  pub judged : (r : Record) → AreJudged r answers criteria → AreJudged r left rest
  pub listed : (r : Record)
      → AreJudged r answers criteria
      → (item : Item)
      → (is_found_if_any first item && meets (Some r) rest item) ≡ meets (Some r) criteria item

-- Returns whether the filter lists the link.
abbrev pub sifts : LinkFilter → Item → Bool
sifts s item = is_found_if_any s.first item && meets (option_copied s.owner) s.rest.now item

-- States that the answers of the filter say which of the first of its criteria match the endpoint
-- by itself.
abbrev pub IsJudged : LinkFilter → Type 0
IsJudged s = AreJudgedOf (option_copied s.owner) s.judged.now s.rest.now

-- A filter that lists exactly the links that the query lists.
pub record IsLinkFilter (query : Query) (owner : Option Record) (s : LinkFilter) : Type 0 where
  pub judged : IsJudged s
  pub lists : (item : Item) → sifts s item ≡ listed_of query owner item
