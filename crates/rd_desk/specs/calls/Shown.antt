-- What a desk shows besides its tables: its board, with what it leaves there to be published.
use Rattle.std.specs.Prelude.{List, Option, IfSome}
use Rattle.history_model.specs.declared.entries.Entry.{Entry}
use Rattle.history_model.specs.Versions.{Version, VersionStandsFor}
use Rattle.rd_desk.specs.calls.Desks.{Seen}

-- The tables of a desk, and the board on which it stages versions.
pub record Shown (B : Type 0) : Type 0 where
  pub tables : Seen
  pub board : B

-- States that the entries that a board exposes, if it exposes any, are those of this version.
abbrev pub AreToldOf : Version → Option (List Entry) → Type 0
AreToldOf version told = IfSome told (λ history. VersionStandsFor 0 history version)
