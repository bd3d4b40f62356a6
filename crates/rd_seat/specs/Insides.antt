-- A seat between two calls.
use Rattle.std.specs.Prelude.{◌≡◌, ℕ, ◌+◌, ◌<◌, ◌≤◌, ◌^◌, false, List, [], ◌∷◌}
use Rattle.rd_base.specs.declared.moments.Moment.{Moment}
use Rattle.history_model.specs.Live.{IsFront, last_moment}
use Rattle.journal_model.specs.Journal.{entries}
use Rattle.journal_model.specs.Seats.{rows_of}
use Rattle.journal_model.specs.declared.rows.Row.{Row}
use Rattle.turn_lock.specs.declared.rows.Replays.{Ghosts}
use Rattle.turn_lock.specs.declared.seats.Pass.{Pass}
use Rattle.turn_lock.specs.declared.lock.TurnLock.{TurnLock}
use Rattle.turn_lock.specs.Histories.{AllBelow}
use Rattle.turn_lock.specs.Shown.{id_of, count_of, lock_of, passes_of, number_of, label_of}
use Rattle.turn_lock.specs.Shown.{is_holding, seen_of, mine_of, IsNew}
use Rattle.coap_answers.specs.declared.mids.Mids.{Mids}
use Rattle.version_board.specs.Ends.{LookerSeen, new_looker}
use Rattle.rd_seat.specs.Seats.{HallSeen, SeatSeen}

-- Returns the hall of a lock.
abbrev pub hall_at : {T R L : Type 0} → TurnLock T R L → HallSeen
hall_at lock = record { id = id_of lock; workers = count_of lock }

-- Returns the hall of a pass.
abbrev pub hall_of : {T : Type 0} {g : Ghosts T Row (List ℕ)} → Pass T Row (List ℕ) g → HallSeen
hall_of pass = record { id = lock_of pass; workers = passes_of pass }

-- Returns what a seat with these parts shows.
abbrev pub seat_shown : {T : Type 0} {g : Ghosts T Row (List ℕ)} → Pass T Row (List ℕ) g
    → LookerSeen
    → Mids → Moment → SeatSeen
seat_shown pass looker mids last = record {
  hall = hall_of pass;
  worker = mids.worker;
  seen = seen_of pass;
  mine = mine_of pass;
  met = looker.seen;
  last = last.0;
  drawn = mids.drawn;
}

-- A seat at rest. Its pass does not hold the turn and has the worker's number. The rows of the pass
-- are those of the worker in the journal that it has seen. Each row there is of one of the hall's
-- workers. The looker is of the hall's board and has met all entries that the pass has seen. What
-- it met is no later than the seat's last row or look.
pub record IsAtRest {T : Type 0} {g : Ghosts T Row (List ℕ)} (pass : Pass T Row (List ℕ) g)
    (looker : LookerSeen) (mids : Mids) (last : Moment) : Type 0 where
  pub idle : is_holding pass ≡ false
  pub number : number_of pass ≡ mids.worker
  pub own : mine_of pass ≡ rows_of mids.worker (seen_of pass)
  pub below : AllBelow (λ (r : Row). r.step.worker) (passes_of pass) (seen_of pass)
  pub board : looker.name ≡ label_of pass
  pub met : IsFront (entries (seen_of pass)) looker.seen
  pub in_time : last_moment looker.seen ≤ last.0
  pub drawn : mids.drawn < 2 ^ 64

-- The parts of a new seat: a pass that has seen nothing, and a looker that has seen nothing. The
-- looker is of the board of the pass's lock.
pub record IsNewSeat {T : Type 0} {g : Ghosts T Row (List ℕ)} (hall : HallSeen) (worker : ℕ)
    (pass : Pass T Row (List ℕ) g) (looker : LookerSeen) : Type 0 where
  pub fresh : IsNew (label_of pass) (passes_of pass) worker pass
  pub of_hall : hall_of pass ≡ hall
  pub unseen : looker ≡ new_looker (label_of pass)

-- States that each pass and looker make a new seat, numbered from `n`.
abbrev pub AreNewFrom : {T : Type 0} {g : Ghosts T Row (List ℕ)} → HallSeen → ℕ
    → List (Pass T Row (List ℕ) g) → List LookerSeen → Type 0
AreNewFrom hall n [] [] = Unit {0}
AreNewFrom hall n (pass ∷ passes) (looker ∷ lookers) =
    IsNewSeat hall n pass looker × AreNewFrom hall (n + 1) passes lookers
AreNewFrom hall n _ _ = ⊥
