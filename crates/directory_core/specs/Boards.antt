-- The version that is staged on a board.
use Rattle.std.specs.Prelude.{List, [], ◌∷◌, ◌++◌}
use Rattle.history_model.specs.declared.entries.Entry.{Entry}
use Rattle.history_model.specs.Versions.{Version, VersionStandsFor}

-- A version that stands for the history with one more entry.
pub record HasOneMore (history : List Entry) (version : Version) : Type 0 where
  pub entry : Entry
  pub stands : VersionStandsFor 0 (history ++ entry ∷ []) version
