-- The version of the directory at the end of a journal.
use Rattle.std.specs.Prelude.{◌≤◌, List}
use Rattle.history_model.specs.Versions.{Version, VersionStandsFor}
use Rattle.journal_model.specs.declared.rows.Row.{Row}
use Rattle.journal_model.specs.Journal.{entries, now}

-- A version that stands for the entries of a journal, and may be queried at the moment of the
-- journal.
pub record DirectoryStandsFor (rows : List Row) (v : Version) : Type 0 where
  pub history : VersionStandsFor 0 (entries rows) v
  pub at : v.at ≤ now rows
  pub swept : v.swept ≤ now rows
