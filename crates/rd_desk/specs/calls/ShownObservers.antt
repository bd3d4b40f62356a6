-- What a desk shows of an observer (RFC 7641 section 4).
use Rattle.std.specs.Prelude.{◌≡◌, List, Option, Some, None, is_some}
use Rattle.event_model.specs.declared.notes.Observer.{Observer}
use Rattle.event_model.specs.Due.{is_due}
use Rattle.event_model.specs.Flights.{flight}
use Rattle.journal_model.specs.declared.rows.Row.{Row}
use Rattle.journal_model.specs.Journal.{events, transitions}
use Rattle.observers.specs.Standing as kept
use Rattle.rd_desk.specs.declared.watchers.Watcher.{Watcher}

-- A shown observer that is the stored one.
pub record IsShownAs (x : kept.Standing) (w : Watcher) : Type 0 where
  pub peer : w.peer ≡ x.peer
  pub token : w.token ≡ x.token
  pub due : w.due ≡ x.due
  pub waiting : w.waiting ≡ is_some x.flight

-- States that an observer is shown if and only if it is stored, and as it is stored.
abbrev pub IsShown : Option kept.Standing → Option Watcher → Type 0
IsShown None None = Unit {0}
IsShown None (Some w) = ⊥
IsShown (Some x) None = ⊥
IsShown (Some x) (Some w) = IsShownAs x w

-- A shown observer that is this observer after a journal. It shows whether the observer is due, and
-- whether a notification to it is in flight.
pub record IsObserverAfter (rows : List Row) (o : Observer) (w : Watcher) : Type 0 where
  pub peer : w.peer ≡ o.peer
  pub token : w.token ≡ o.token
  pub due : w.due ≡ is_due o (events rows) (transitions rows)
  pub waiting : w.waiting ≡ is_some (flight o (events rows))
