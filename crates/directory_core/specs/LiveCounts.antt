-- The number and the weight of live records, computed from what has lapsed.
use Rattle.std.specs.Prelude.{ℕ, ◌-◌, List, [], ◌∷◌, length, Option, Some, None, if◌then◌else◌}
use Rattle.rd_base.specs.declared.records.Record.{Record}
use Rattle.record_model.specs.ListingLines.{weight}
use Rattle.history_model.specs.Leases.{is_live_at}
use Rattle.history_model.specs.Replay.{numbered}
use Rattle.history_model.specs.Refusals.{text_of}
use Rattle.directory_core.specs.declared.counts.Counts.{Counts}

-- Returns the number of records, and their weight together.
abbrev pub counts_of : List Record → Counts
counts_of records = record { live = length records; text = text_of records }

-- Returns the counts of records that were live at a moment, without one that has lapsed since. A
-- record that was not live then was not counted.
abbrev pub without_lapse : ℕ → Counts → Option Record → Counts
without_lapse from counts None = counts
without_lapse from counts (Some r) =
    if is_live_at from r
    then record { live = counts.live - 1; text = counts.text - weight r }
    else counts

-- Returns the counts without the records with these numbers.
unfoldable pub without_lapses : ℕ → List Record → Counts → List ℕ → Counts
without_lapses from records counts [] = counts
without_lapses from records counts (n ∷ numbers) =
    without_lapses from records (without_lapse from counts (numbered n records)) numbers
