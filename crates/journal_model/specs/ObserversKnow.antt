-- The fourth sentence of the headline: an observer that is not due was last given the listing now.
use Rattle.std.specs.Prelude.{◌≡◌, false, List, Some}
use Rattle.std.specs.List.{IsAmong}
use Rattle.history_model.specs.Listing.{listing}
use Rattle.event_model.specs.declared.notes.Observer.{Observer}
use Rattle.event_model.specs.Observers.{name_of, observers, last_body_formed}
use Rattle.event_model.specs.Due.{is_due}
use Rattle.journal_model.specs.declared.rows.Row.{Row}
use Rattle.journal_model.specs.Journal.{events, entries, now, transitions}

-- The sentence: the body that was last built for an observer that is not due is the listing now.
pub record ObserversKnow (rows : List Row) : Type 0 where
  pub last_formed : (o : Observer)
      → IsAmong (observers (events rows)) o
      → is_due o (events rows) (transitions rows) ≡ false
      → last_body_formed (name_of o) (events rows)
      ≡ Some (listing o.query (entries rows) (now rows))
