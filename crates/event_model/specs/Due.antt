-- When an observer is due: the lines of its query changed since its listing was last built or found
-- unchanged (RFC 7641 section 1.3). And the observers, as a table shows them.
use Rattle.std.specs.Prelude.{
  ℕ,
  Bool,
  true,
  false,
  not,
  ◌&&◌,
  ◌==◌,
  nat_lt,
  List,
  [],
  ◌∷◌,
  filter,
  Option,
  Some,
  None,
  bytes_eq,
  map,
}
use Rattle.std.specs.List.{list_any}
use Rattle.rd_base.specs.declared.queries.Query.{Query}
use Rattle.history_model.specs.declared.entries.Entry.{Entry}
use Rattle.history_model.specs.Listing.{all_lines}
use Rattle.event_model.specs.declared.notes.Note.{Note}
use Rattle.event_model.specs.declared.notes.Note.TheVariants as note
use Rattle.event_model.specs.declared.notes.Observer.{Observer}
use Rattle.event_model.specs.Same.{RequestName, is_same_request}
use Rattle.event_model.specs.Events.{Event, last_event}
use Rattle.event_model.specs.Observers.{name_of, observers, last_body_formed}
use Rattle.event_model.specs.Flights.{Sent, OctetsSent, waiting_notification}

-- A row whose step is no look, as observers see it: its place, and the history and the moment
-- before it and after it.
pub record Transition : Type 0 where
  pub place : ℕ
  pub before : List Entry
  pub moment_before : ℕ
  pub after : List Entry
  pub moment_after : ℕ

-- Returns whether the lines are the same, each of the same record.
abbrev pub are_same_lines : List (ℕ × List ℕ) → List (ℕ × List ℕ) → Bool
are_same_lines [] [] = true
are_same_lines [] (other ∷ others) = false
are_same_lines (line ∷ lines) [] = false
are_same_lines (line ∷ lines) (other ∷ others) =
    line.0 == other.0 && bytes_eq line.1 other.1 && are_same_lines lines others

-- Returns whether the row changed the lines of a query, before page and count.
unfoldable pub is_change_of : Query → Transition → Bool
is_change_of query t =
    not (are_same_lines (all_lines query t.before t.moment_before)
    (all_lines query t.after t.moment_after))

-- Returns whether a note says that the listing of an observer was built or found unchanged.
abbrev pub is_looking_for : RequestName → Note → Bool
is_looking_for name (note.Formed peer token body mid) = is_same_request (peer, token) name
is_looking_for name (note.Unchanged peer token) = is_same_request (peer, token) name
is_looking_for name _ = false

-- Returns whether a row after a place changed the lines of the query.
abbrev pub is_changed_since : Query → List Transition → Option Event → Bool
is_changed_since query transitions None = false
is_changed_since query transitions (Some looked) =
    list_any (is_change_of query) (filter (λ t. nat_lt looked.place t.place) transitions)

-- Returns whether the observer is due: since its listing was last built or found unchanged, a row
-- changed the lines of its query.
unfoldable pub is_due : Observer → List Event → List Transition → Bool
is_due o events transitions =
    is_changed_since o.query transitions (last_event (is_looking_for (name_of o)) events)

-- An observer as a table shows it: who it is, whether it is due, the body that was last built for
-- it, and its notification in flight.
pub record Watching : Type 0 where
  pub observer : Observer
  pub due : Bool
  pub last_body : Option (List ℕ)
  pub waits : Option Sent

-- Returns an observer as a table shows it, by events, by the transitions of rows, and by the octets
-- that rows sent.
abbrev pub watching : OctetsSent → List Event → List Transition → Observer → Watching
watching octets events transitions o = record {
  observer = o;
  due = is_due o events transitions;
  last_body = last_body_formed (name_of o) events;
  waits = waiting_notification octets events o;
}

-- Returns the observers, in the order in which they were added.
unfoldable pub observers_standing : OctetsSent → List Event → List Transition → List Watching
observers_standing octets events transitions =
    map (watching octets events transitions) (observers events)
