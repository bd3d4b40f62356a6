-- What contracts read of a pass and of a lock.
use Rattle.std.specs.Prelude.{ℕ, Bool, List, Option}
use Rattle.std.specs.Mem.{manually_drop_value}
use Rattle.atomic_table.specs.Seated.{TableId}
use Rattle.atomic_table.specs.declared.shared.Seat.{Seat}
use Rattle.turn_lock.specs.declared.rows.Replays.{Ghosts}
use Rattle.turn_lock.specs.declared.seats.Pass.{Pass}
use Rattle.turn_lock.specs.declared.seats.Passes.{Passes}
use Rattle.turn_lock.specs.declared.lock.TurnLock.{TurnLock}
use Rattle.turn_lock.specs.declared.views.View.{View}
use Rattle.turn_lock.specs.Passes.{IsFresh}

-- Returns which lock it is.
abbrev pub id_of : {T R L : Type 0} → TurnLock T R L → TableId
id_of lock = lock.table.shared.table_id

-- Returns the number of passes of a lock.
abbrev pub count_of : {T R L : Type 0} → TurnLock T R L → ℕ
count_of lock = lock.table.shared.key.passes

module _ {T R L : Type 0} {g : Ghosts T R L} where
  -- Returns the seat of a pass in the lock's table.
  abbrev pub seat_of : Pass T R L g → Seat (Option T) (View R L)
  seat_of pass = manually_drop_value pass.seat

  -- Returns which lock a pass belongs to.
  abbrev pub lock_of : Pass T R L g → TableId
  lock_of pass = (seat_of pass).table_id

  -- Returns the number of a pass.
  abbrev pub number_of : Pass T R L g → ℕ
  number_of pass = (seat_of pass).me.0.number

  -- Returns the label of the lock of a pass.
  abbrev pub label_of : Pass T R L g → L
  label_of pass = (seat_of pass).me.0.label

  -- Returns the number of passes of the lock of a pass.
  abbrev pub passes_of : Pass T R L g → ℕ
  passes_of pass = (seat_of pass).me.0.passes

  -- Returns whether a pass holds the turn.
  abbrev pub is_holding : Pass T R L g → Bool
  is_holding pass = (seat_of pass).me.0.holding

  -- Returns the history as far as the pass has seen it, the newest row first.
  abbrev pub seen_of : Pass T R L g → List R
  seen_of pass = (seat_of pass).me.0.seen

  -- Returns the rows that the pass has made.
  abbrev pub mine_of : Pass T R L g → List R
  mine_of pass = (seat_of pass).me.0.mine

  -- States that the pass has this number and has seen nothing, and that its lock has this label and
  -- this number of passes.
  abbrev pub IsNew : L → ℕ → ℕ → Pass T R L g → Type 0
  IsNew label passes number pass = IsFresh label passes number (seat_of pass).me

  -- Returns the passes, in the order of their numbers.
  abbrev pub list_of : Passes T R L g → List (Pass T R L g)
  list_of passes = passes.passes.items
