-- What a hall is between two turns, whatever its seats do.
use Rattle.std.specs.Prelude.{◌≡◌, ℕ, false, List, [], Option, Some}
use mathlib.Core.Option.{some}
use lib.ListN.{get_elem?}
use Rattle.std.specs.List.{AllByRecursion}
use Rattle.atomic_table.specs.Table.{State}
use Rattle.history_model.specs.Versions.{VersionStandsFor}
use Rattle.journal_model.specs.declared.rows.Row.{Row}
use Rattle.journal_model.specs.Journal.{entries}
use Rattle.journal_model.specs.DeskJournal.{IsDeskJournal}
use Rattle.headline_law.specs.WholeHeadline.{WholeDeskHeadline}
use Rattle.rd_desk.specs.calls.Shown.{Shown}
use Rattle.turn_lock.specs.declared.views.View.{View}
use Rattle.turn_lock.specs.declared.rows.Replays.{Ghosts}
use Rattle.turn_lock.specs.Rule.{Kept, IsOfPasses, OfEachPass}
use Rattle.version_board.specs.Ends.{PublisherSeen}
use Rattle.rd_seat.specs.declared.shared_desk.SharedDesk.{SharedDesk}
use Rattle.rd_seat.specs.Turns.{IsDeskRow, IsPublished}

-- The rows of a hall between two turns, which are one history. Each is the row of a step of the
-- desk after those before it, and none is of a look. The registrations are the replay of their
-- entries. The replay is legal and contains each accepted request once, despite duplicates. An
-- observer that is not due was last sent the current listing. Equal tags mean one state. The
-- headline holds of answers whose bodies were built in these rows. It also holds of moments,
-- answers, observers, fetches and kept answers (`WholeDeskHeadline`). The published version stands
-- for the same entries.
pub record IsHistoryOfHall (rows : List Row) (desk : Shown PublisherSeen) : Type 0 where
  pub journal : IsDeskJournal rows
  pub no_look : AllByRecursion IsDeskRow rows
  pub registrations : VersionStandsFor 0 (entries rows) desk.tables.version
  pub headline : WholeDeskHeadline rows
  pub published : IsPublished (entries rows) desk.board

-- States that the rule of the turn holds of a hall with this many workers. It holds between any two
-- steps on the lock's word and slot. By the ghosts, the desk replays its rows.
abbrev pub KeptByHall : Ghosts SharedDesk Row (List ℕ) → List ℕ → ℕ
    → State (Option SharedDesk) (View Row (List ℕ)) → Type 0
KeptByHall g name workers s = Kept g.stands g.number g.label name workers s

-- The desk that the lock holds. It stands for these rows, which are one history of the hall.
pub record HoldsHistory (rows : List Row) (s : State (Option SharedDesk) (View Row (List ℕ)))
    : Type 0 where
  pub shared : SharedDesk
  pub home : get_elem? s.homes 0 ≡ some (some (Some shared))
  pub history : IsHistoryOfHall rows shared.desk.value

-- States that if the turn is free, the desk that the lock holds stands for such a history.
abbrev pub HallsHoldHistory : Ghosts SharedDesk Row (List ℕ) → Type 0
HallsHoldHistory g = (name : List ℕ) (workers : ℕ)
    (s : State (Option SharedDesk) (View Row (List ℕ)))
    → (kept : KeptByHall g name workers s) → kept.held ≡ false → HoldsHistory kept.history s

-- States that at any time a journal is that of the hall's seats. Each row is of one of the workers,
-- whose numbers are below their count. The rows of a worker are exactly those that its seat made,
-- in order. Until a seat makes a row, the journal is empty: nothing was done before the seats
-- existed, and only seats do anything.
abbrev pub RowsAreOfSeats : Ghosts SharedDesk Row (List ℕ) → Type 0
RowsAreOfSeats g = (name : List ℕ) (workers : ℕ)
    (s : State (Option SharedDesk) (View Row (List ℕ)))
    → (kept : KeptByHall g name workers s)
    → IsOfPasses (λ (r : Row). r.step.worker) workers s.views kept.history
    × (OfEachPass workers s.views (λ seat. seat.mine ≡ []) → kept.history ≡ [])
