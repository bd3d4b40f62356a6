-- A registration contributes to a query with each criterion once the lines that it contributes to
-- the query.
use Rattle.std.proofs.Common.{◌≡◌, ◌||◌, cond, List, [], ◌∷◌, map, Option, Some, None, refl, ap}
use Rattle.std.proofs.lemmas.List.Elements.{filter_agree}
use Rattle.std.specs.List.{list_any}
use Rattle.rd_base.specs.declared.queries.Kind.{Kind}
use Rattle.rd_base.specs.declared.queries.Kind.TheVariants as kind
use Rattle.rd_base.specs.declared.queries.Query.{Query}
use Rattle.rd_base.specs.declared.records.Item.{Item}
use Rattle.rd_base.specs.declared.records.Record.{Record}
use Rattle.record_model.specs.Matching.{endpoint_matches, link_matches}
use Rattle.record_model.specs.ListingLines.{
  endpoint_line,
  endpoint_listed,
  link_line,
  link_listed,
  part,
  part_of_kind,
  part_or_none,
}
use Rattle.distinct_criteria.specs.Distinct.{distinct_query}
use Rattle.distinct_criteria.proofs.TestLaws.{all_distinct}

-- the same links are listed
link_distinct : (query : Query) (r : Record) (item : Item)
    → link_listed (distinct_query query) r item ≡ link_listed query r item
unfolding link_listed
link_distinct query r item =
    all_distinct (λ criterion. link_matches criterion item || endpoint_matches criterion r)
    query.criteria

-- and the same endpoints
endpoint_distinct : (query : Query) (r : Record)
    → endpoint_listed (distinct_query query) r ≡ endpoint_listed query r
unfolding endpoint_listed
endpoint_distinct query r =
    all_distinct
    (λ criterion. endpoint_matches criterion r || list_any (link_matches criterion) r.items)
    query.criteria

kind_distinct : (k : Kind) (query : Query) (r : Record)
    → part_of_kind k (distinct_query query) r ≡ part_of_kind k query r
kind_distinct kind.Resource query r =
    ap (map link_line)
    (filter_agree (link_listed (distinct_query query) r) (link_listed query r)
    (link_distinct query r) r.items)
kind_distinct kind.Endpoint query r =
    ap (λ b. cond b (endpoint_line r ∷ []) []) (endpoint_distinct query r)
kind_distinct kind.Discovery query r = refl

-- so a registration contributes the same lines
pub part_distinct : (query : Query) (r : Record)
    → part (distinct_query query) r ≡ part query r
unfolding part
part_distinct query r = kind_distinct query.kind query r

-- and where there is none, no lines
pub part_or_none_distinct : (query : Query) (r : Option Record)
    → part_or_none (distinct_query query) r ≡ part_or_none query r
part_or_none_distinct query None = refl
part_or_none_distinct query (Some r) = part_distinct query r
