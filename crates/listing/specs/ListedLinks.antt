-- The links that are listed, of a registration or of the directory itself, and their lines.
use Rattle.std.specs.Prelude.{
  ℕ,
  Bool,
  List,
  [],
  ◌∷◌,
  map,
  filter,
  Option,
  Some,
  None,
  if◌then◌else◌,
}
use Rattle.rd_base.specs.declared.queries.Query.{Query}
use Rattle.rd_base.specs.declared.records.Item.{Item}
use Rattle.rd_base.specs.declared.records.Record.{Record}
use Rattle.record_model.specs.Discovery.{own_link_listed}
use Rattle.record_model.specs.ListingLines.{endpoint_line, endpoint_listed, link_line, link_listed}

-- Returns whether the query lists a link of this registration, or one of the directory itself,
-- which has no endpoint.
abbrev pub listed_of : Query → Option Record → Item → Bool
listed_of query (Some r) item = link_listed query r item
listed_of query None item = own_link_listed query item

-- Returns the lines of all links.
abbrev pub all_lines : List Item → List (List ℕ)
all_lines items = map link_line items

-- Returns the lines of the links that pass a test.
abbrev pub lines_by : (Item → Bool) → List Item → List (List ℕ)
lines_by test items = all_lines (filter test items)

-- Returns the lines of the links that are listed.
abbrev pub listed_lines : Query → Option Record → List Item → List (List ℕ)
listed_lines query owner items = lines_by (listed_of query owner) items

-- Returns the line of an endpoint, or nothing if it is not listed.
abbrev pub listed_endpoint : Query → Record → List (List ℕ)
listed_endpoint query r = if endpoint_listed query r then endpoint_line r ∷ [] else []
