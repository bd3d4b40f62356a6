-- A lookup of a query with each criterion once: the same listing, and no more steps.
use Rattle.std.proofs.Common.{
  ◌≡◌,
  ℕ,
  ◌+◌,
  ◌*◌,
  ◌≤◌,
  List,
  [],
  ◌∷◌,
  ◌++◌,
  length,
  map,
  Contains,
  Option,
  Some,
  unwrap_or,
  refl,
  sym,
  ap,
  ap₂,
  ◌∙◌,
  arith,
}
use Rattle.std.proofs.Math.Nat.{mul-le-mul_right}
use Rattle.rd_base.proofs.lemmas.Contains.{contains_filter, filter_contains}
use Rattle.rd_base.specs.declared.queries.Criterion.{Criterion}
use Rattle.rd_base.specs.declared.queries.Query.{Query}
use Rattle.rd_base.specs.declared.records.Record.{Record}
use Rattle.record_model.specs.ListingLines.{shown}
use Rattle.history_model.specs.declared.entries.Entry.{Entry}
use Rattle.history_model.specs.Listing.{all_lines, lines_of, listing}
use Rattle.history_model.specs.Live.{live}
use Rattle.distinct_criteria.specs.Distinct.{distinct, distinct_query}
use Rattle.distinct_criteria.proofs.PartLaws.{part_distinct}
use Rattle.distinct_criteria.proofs.TestLaws.{contains_distinct, fewer_distinct}
use Rattle.attribute_index.specs.Entries as index
use Rattle.directory_core.specs.Bounds.{attribute_criteria, is_of_attributes}

-- ---- the listing

lines_distinct : (query : Query) (records : List Record)
    → lines_of (distinct_query query) records ≡ lines_of query records
lines_distinct query [] = refl
lines_distinct query (r ∷ records) =
    ap₂ (λ own others. map (λ line. (r.number, line)) own ++ others) (part_distinct query r)
    (lines_distinct query records)

shown_distinct : (query : Query) (lines : List (List ℕ))
    → shown (distinct_query query) lines ≡ shown query lines
unfolding shown
shown_distinct query lines = refl

listing_distinct : (query : Query) (history : List Entry) (moment : ℕ)
    → listing (distinct_query query) history moment ≡ listing query history moment
unfolding listing all_lines
listing_distinct query history moment =
    shown_distinct query (map (λ n. n.1) (lines_of (distinct_query query) (live history moment)))
    ∙ ap (λ lines. shown query (map (λ n. n.1) lines))
    (lines_distinct query (live history moment))

-- the query that is looked up, where some criteria are repeated
pub asked_by : (found : Option Query) (query asked : Query)
    → found ≡ Some asked
    → unwrap_or found query ≡ distinct_query query
    → asked ≡ distinct_query query
asked_by found query asked some is = sym (ap (λ o. unwrap_or o query) some) ∙ is

-- it gives the listing of the query
pub same_listing : (query asked : Query) (history : List Entry) (moment : ℕ)
    → asked ≡ distinct_query query
    → listing asked history moment ≡ listing query history moment
same_listing query asked history moment is =
    ap (λ (q : Query). listing q history moment) is ∙ listing_distinct query history moment

-- ---- the steps

pub few_distinct : (start after : ℕ) (query asked : Query) (entries : List index.Entry)
    → asked ≡ distinct_query query
    → ((criterion : Criterion)
    → Contains (attribute_criteria asked.criteria) criterion
    → after
    ≤ start
    + length (attribute_criteria asked.criteria) *
    (length (index.carriers_of criterion.name criterion.pattern entries) + 1))
    → (criterion : Criterion)
    → Contains (attribute_criteria query.criteria) criterion
    → after
    ≤ start
    + length (attribute_criteria query.criteria) *
    (length (index.carriers_of criterion.name criterion.pattern entries) + 1)
few_distinct start after query asked entries is few criterion among =
    let was = contains_filter is_of_attributes query.criteria criterion among in
    let there : Contains (attribute_criteria asked.criteria) criterion =
    rw is (filter_contains is_of_attributes (distinct query.criteria) criterion
    (contains_distinct query.criteria criterion was.0) was.1) in
    let fewer : length (attribute_criteria asked.criteria)
    ≤ length (attribute_criteria query.criteria) =
    rw is (fewer_distinct is_of_attributes query.criteria) in
    let bound = few criterion there in
    let less =
    mul-le-mul_right
    (length (index.carriers_of criterion.name criterion.pattern entries) + 1) fewer in
    omega (arith, bound, less)
