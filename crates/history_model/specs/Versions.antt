-- The history that a version of the directory stands for.
use Rattle.std.specs.Prelude.{◌≡◌, ℕ, List}
use Rattle.rd_base.specs.declared.records.Record.{Record}
use Rattle.history_model.specs.declared.entries.Entry.{Entry}
use Rattle.history_model.specs.Leases.{live_among}
use Rattle.history_model.specs.Replay.{State, replay, counted}
use Rattle.history_model.specs.Live.{last_moment}
use Rattle.history_model.specs.Listing.{lapsed_since}

-- What a version shows: its records, and these numbers.
-- - `entries` is the number of its entries, and `at` the moment of the last entry.
-- - `last_number` is the last number that a registration got.
-- - `swept_live` is how many records were dropped since the last entry that were live after it.
-- - `swept` is the moment up to which lapsed records were dropped.
pub record Version : Type 0 where
  pub records : List Record
  pub entries : ℕ
  pub at : ℕ
  pub last_number : ℕ
  pub swept_live : ℕ
  pub swept : ℕ

-- Returns the state that a version has made, without the records that it dropped.
abbrev pub state_of : Version → State
state_of version = record { records = version.records; last_number = version.last_number }

-- A version that stands for a history, if `first` entries were counted before the first. It has the
-- records of the history that had not lapsed when it was swept. It counts those of the dropped ones
-- that were live after the last entry.
pub record VersionStandsFor (first : ℕ) (history : List Entry) (version : Version) : Type 0 where
  pub records : version.records ≡ live_among version.swept (replay history).records
  pub entries : version.entries ≡ counted first history
  pub at : version.at ≡ last_moment history
  pub last_number : version.last_number ≡ (replay history).last_number
  pub swept_live : version.swept_live ≡ lapsed_since history version.swept
