-- What changes the lines of a query: records that lapse as time passes, and the one record that an
-- entry is about.
use Rattle.std.specs.Prelude.{ℕ, Bool, not, List, Option, Some, None}
use Rattle.std.specs.List.{list_any}
use Rattle.rd_base.specs.declared.queries.Query.{Query}
use Rattle.rd_base.specs.declared.records.Record.{Record}
use Rattle.record_model.specs.ListingLines.{same_lines, part_or_none}
use Rattle.history_model.specs.Leases.{lapsing_among}

-- Returns whether the two states of a registration contribute different lines to the query.
abbrev pub is_other_part : Query → Option Record → Option Record → Bool
is_other_part query old new = not (same_lines (part_or_none query old) (part_or_none query new))

-- Returns whether a record that lapses after one moment and not after another contributes lines to
-- the query.
abbrev pub is_lapse_of : Query → ℕ → ℕ → List Record → Bool
is_lapse_of query from to records =
    list_any (λ r. is_other_part query (Some r) None) (lapsing_among from to records)
