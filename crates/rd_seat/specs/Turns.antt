-- What the shared desk stands for, and what a step leaves of it before the turn is given back.
use Rattle.std.specs.Prelude.{◌≡◌, ◌⊎◌, ℕ, ◌≤◌, false, List, [], ◌∷◌, ◌++◌, Option, Some, None}
use Rattle.std.specs.List.{AllByRecursion}
use Rattle.history_model.specs.declared.entries.Entry.{Entry}
use Rattle.history_model.specs.Versions.{Version, VersionStandsFor}
use Rattle.journal_model.specs.declared.rows.Row.{Row}
use Rattle.journal_model.specs.Journal.{entries, entries_of, is_look, latest, now}
use Rattle.journal_model.specs.DeskJournal.{IsDeskJournal}
use Rattle.rd_desk.specs.calls.Desks.{StandsFor}
use Rattle.rd_desk.specs.calls.Shown.{Shown}
use Rattle.rd_desk.specs.calls.Staging.{staged_after}
use Rattle.version_board.specs.Ends.{PublisherSeen}

-- States that the row is not of a look.
abbrev pub IsDeskRow : Row → Type 0
IsDeskRow r = is_look r.step.kind ≡ false

-- The rows that a desk made at turns. They are a journal of a desk without looks, in which no
-- moment is later than that of the last row.
pub record AreTurns (rows : List Row) : Type 0 where
  pub journal : IsDeskJournal rows
  pub no_look : AllByRecursion IsDeskRow rows
  pub in_time : latest rows ≤ now rows

-- A board whose published version stands for a history.
pub record IsPublished (history : List Entry) (board : PublisherSeen) : Type 0 where
  pub version : Version
  pub is : board.published ≡ Some version
  pub stands : VersionStandsFor 0 history version

-- The desk between two turns. It stands for the journal of desk rows, and its board exposes the
-- entries. The published version stands for them, and nothing is staged.
pub record StandsAtTurn (rows : List Row) (desk : Shown PublisherSeen) : Type 0 where
  pub turns : AreTurns rows
  pub tables : StandsFor rows desk.tables
  pub told : desk.board.told ≡ entries rows
  pub published : IsPublished (entries rows) desk.board
  pub staged : desk.board.staged ≡ None

-- States that a row makes this entry, or none.
abbrev pub MakesAtMost : Entry → Row → Type 0
MakesAtMost entry r = (entries_of r ≡ []) ⊎ (entries_of r ≡ entry ∷ [])

-- The desk after the step of a row, before its staged version is published. It stands for the
-- journal with the row. The board still exposes the entries before it.
pub record HasStepped (entry : Entry) (r : Row) (worker : ℕ) (rows : List Row)
    (desk : Shown PublisherSeen) : Type 0 where
  pub own : r.step.worker ≡ worker
  pub turns : AreTurns (r ∷ rows)
  pub tables : StandsFor (r ∷ rows) desk.tables
  pub told : desk.board.told ≡ entries rows
  pub staged : desk.board.staged ≡ staged_after (entries_of r) desk.tables.version None
  pub most : MakesAtMost entry r

-- Returns a board after the staged version was published, if there was one.
abbrev pub published_with : Option Version → Entry → PublisherSeen → PublisherSeen
published_with None entry p = p
published_with (Some version) entry p = record {
  name = p.name;
  told = p.told ++ entry ∷ [];
  published = Some version;
  staged = None;
}

-- Returns a board after its own staged version was published, if there was one.
abbrev pub published_after : Entry → PublisherSeen → PublisherSeen
published_after entry p = published_with p.staged entry p

-- Returns a desk whose board published its staged version, if there was one.
abbrev pub board_published : Entry → Shown PublisherSeen → Shown PublisherSeen
board_published entry desk = record {
  tables = desk.tables;
  board = published_after entry desk.board;
}
