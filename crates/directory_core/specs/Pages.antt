-- Pages of listings while they are written, and the lines that live records contribute (RFC 9176
-- section 6).
use Rattle.std.specs.Prelude.{ℕ, List, [], Option, Some, None, if◌then◌else◌}
use Rattle.std.specs.List.{flat_map}
use Rattle.rd_base.specs.declared.queries.Query.{Query}
use Rattle.rd_base.specs.declared.records.Record.{Record}
use Rattle.record_model.specs.ListingLines.{part}
use Rattle.history_model.specs.Leases.{is_live_at}
use Rattle.history_model.specs.Replay.{numbered}
use Rattle.listing.specs.AppendedLines.{appended, shown_lines}
use Rattle.directory_core.specs.declared.pages.Page.{Page}

-- Returns the text of a page after these lines.
abbrev pub finished : Page → List (List ℕ) → List ℕ
finished page lines = appended page.text (shown_lines page.skip page.most lines)

-- Returns the lines that a record contributes to a query at a moment, or none if it is not live
-- then.
abbrev pub live_part : Query → ℕ → Record → List (List ℕ)
live_part query moment r = if is_live_at moment r then part query r else []

-- Returns the same of a record, if there is one.
abbrev pub live_part_or_none : Query → ℕ → Option Record → List (List ℕ)
live_part_or_none query moment None = []
live_part_or_none query moment (Some r) = live_part query moment r

-- Returns the lines that records contribute, one after another.
unfoldable pub live_lines : Query → ℕ → List Record → List (List ℕ)
live_lines query moment records = flat_map (live_part query moment) records

-- Returns the lines that the records with these numbers contribute, one after another.
unfoldable pub numbered_lines : Query → ℕ → List Record → List ℕ → List (List ℕ)
numbered_lines query moment records numbers =
    flat_map (λ n. live_part_or_none query moment (numbered n records)) numbers
