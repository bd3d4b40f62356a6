-- The most steps that a lookup takes.
use Rattle.std.specs.Prelude.{◌≡◌, Bool, not, ◌&&◌, List, ◌++◌, filter}
use Rattle.std.specs.List.{list_any, flat_map}
use Rattle.rd_base.specs.declared.attributes.Pair.{Pair}
use Rattle.rd_base.specs.declared.queries.Criterion.{Criterion}
use Rattle.rd_base.specs.declared.records.Record.{Record}
use Rattle.record_model.specs.Matching.{is_href, is_anchor_criterion, endpoint_pairs}
use Rattle.attribute_index.specs.Entries.{Entry, IsAscending, has_entry, entries_of_all}

-- Returns whether the criterion is about attributes, and not about targets or anchors.
abbrev pub is_of_attributes : Criterion → Bool
is_of_attributes criterion = not (is_href criterion) && not (is_anchor_criterion criterion)

-- Returns the criteria that are about attributes.
abbrev pub attribute_criteria : List Criterion → List Criterion
attribute_criteria criteria = filter is_of_attributes criteria

-- Returns the attributes by which a link of a record, or its endpoint, can match by itself (RFC
-- 9176 section 6.2).
abbrev pub pairs_of : Record → List Pair
pairs_of r = endpoint_pairs r ++ flat_map (λ item. item.pairs) r.items

-- Returns the index entries of a record: the values of its attributes by name, with its number.
abbrev pub record_entries : Record → List Entry
record_entries r = entries_of_all (pairs_of r) r.number

-- The index entries of the records, each once.
pub record AreEntriesOf (records : List Record) (entries : List Entry) : Type 0 where
  pub once : IsAscending entries
  pub there : (e : Entry)
      → has_entry entries e ≡ list_any (λ r. has_entry (record_entries r) e) records
