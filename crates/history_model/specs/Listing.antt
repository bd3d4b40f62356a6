-- The answer of a lookup from a history at a moment: the listing and its entity tag (RFC 9176
-- section 6, RFC 7252 section 5.10.6).
use Rattle.std.specs.Prelude.{ℕ, List, ◌++◌, map, filter, flat_map, length, nat_le}
use Rattle.std.specs.Int.{bytes_high_first}
use Rattle.rd_base.specs.declared.queries.Query.{Query}
use Rattle.rd_base.specs.declared.records.Record.{Record}
use Rattle.record_model.specs.ListingLines.{part, shown}
use Rattle.history_model.specs.declared.entries.Entry.{Entry}
use Rattle.history_model.specs.Leases.{lapse}
use Rattle.history_model.specs.Replay.{counted}
use Rattle.history_model.specs.Live.{live, last_moment}

-- Returns the lines that a record contributes to a query, each with the number of the record.
abbrev pub numbered_part : Query → Record → List (ℕ × List ℕ)
numbered_part query r = map (λ line. (r.number, line)) (part query r)

-- Returns the lines of a query over records, each with the number of its record, before page and
-- count.
abbrev pub lines_of : Query → List Record → List (ℕ × List ℕ)
lines_of query records = flat_map (numbered_part query) records

-- Returns the lines of a query at a moment: in ascending number, and those of one record in the
-- order of its body.
unfoldable pub all_lines : Query → List Entry → ℕ → List (ℕ × List ℕ)
all_lines query history moment = lines_of query (live history moment)

-- Returns the listing of a query at a moment: its lines, cut by page and count, and joined by
-- commas.
unfoldable pub listing : Query → List Entry → ℕ → List ℕ
listing query history moment =
    shown query (map (λ numbered. numbered.1) (all_lines query history moment))

-- Returns how many of the records that were live after the last entry have lapsed at a moment.
unfoldable pub lapsed_since : List Entry → ℕ → ℕ
lapsed_since history moment =
    length (filter (λ r. nat_le (lapse r) moment) (live history (last_moment history)))

-- Returns an entity tag: a number of entries in six octets, and a number of lapsed records in two.
abbrev pub tag_octets : ℕ → ℕ → List ℕ
tag_octets entries lapsed = bytes_high_first 6 entries ++ bytes_high_first 2 lapsed

-- Returns the tag of a history at a moment that is not below its last, if `first` entries were
-- counted before its first.
unfoldable pub tag_from : ℕ → List Entry → ℕ → List ℕ
tag_from first history moment = tag_octets (counted first history) (lapsed_since history moment)

-- Returns the tag of a history at a moment that is not below its last.
abbrev pub tag : List Entry → ℕ → List ℕ
tag history moment = tag_from 0 history moment
