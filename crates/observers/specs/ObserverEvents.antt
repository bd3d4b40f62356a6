-- The events of a journal that a table of observers stands for (RFC 7641 section 4).
use Rattle.std.specs.Prelude.{
  ◌≡◌,
  ℕ,
  ◌≤◌,
  Bool,
  true,
  false,
  ◌||◌,
  ◌==◌,
  nat_lt,
  List,
  [],
  ◌∷◌,
  map,
  length,
  Option,
  Some,
  None,
  is_some,
}
use Rattle.std.specs.List.{AllByRecursion}
use Rattle.rd_base.specs.declared.peers.Peer.{Peer}
use Rattle.rd_base.specs.declared.queries.Query.{Query}
use Rattle.event_model.specs.declared.notes.Note.{Note}
use Rattle.event_model.specs.declared.notes.Note.TheVariants as note
use Rattle.event_model.specs.declared.notes.Observer.{Observer}
use Rattle.event_model.specs.Same.{is_same_peer}
use Rattle.event_model.specs.Events.{Event, last_event}
use Rattle.event_model.specs.Observers.{name_of}
use Rattle.event_model.specs.Flights.{Flight, OctetsSent}
use Rattle.event_model.specs.Due.{
  Transition,
  Watching,
  is_change_of,
  is_looking_for,
  observers_standing,
}
use Rattle.exchange_core.specs.declared.resends.Again.{Again}
use Rattle.exchange_core.specs.declared.resends.Again.TheVariants as again
use Rattle.exchange_core.specs.Retransmissions.{due_at}
use Rattle.observers.specs.Standing.{Standing}

-- Returns an observer of the table as notes name it, with the query that is watched in its slot.
abbrev pub observer_of : (ℕ → Query) → Standing → Observer
observer_of queries w = record {
  peer = w.peer;
  token = w.token;
  query = queries w.slot;
  key = w.key;
  szx = w.szx;
}

-- Returns what the table shows of an observer: the observer, whether it is due, its last body and
-- its notification in flight.
abbrev pub shown : (ℕ → Query) → Standing → Watching
shown queries w = record {
  observer = observer_of queries w;
  due = w.due;
  last_body = Some w.last;
  waits = w.flight;
}

-- States that of two observers of one peer, at most one has a notification in flight (RFC 7252
-- section 4.7, NSTART).
abbrev pub AwaitsOne : Standing → Standing → Type 0
AwaitsOne w other =
    is_same_peer other.peer w.peer ≡ true
    → is_some w.flight ≡ true
    → is_some other.flight ≡ true
    → ⊥

abbrev pub EachAwaitsOne : List Standing → Type 0
EachAwaitsOne [] = Unit {0}
EachAwaitsOne (w ∷ ws) = AllByRecursion (AwaitsOne w) ws × EachAwaitsOne ws

-- The observers that stand for events and transitions, by the queries in their slots and by the
-- octets that rows sent. They are the observers that these leave, in order, and no peer has two
-- notifications in flight.
pub record ObserversStandFor (queries : ℕ → Query) (octets : OctetsSent) (events : List Event)
    (transitions : List Transition) (ws : List Standing) : Type 0 where
  pub standing : observers_standing octets events transitions ≡ map (shown queries) ws
  pub awaited : EachAwaitsOne ws

-- States that a mark of a slot is exact for a transition. For each of these observers, the
-- transition changed the lines of its query if and only if the observer has this slot.
abbrev pub IsExactMark : (ℕ → Query) → Transition → ℕ → List Standing → Type 0
IsExactMark queries t slot ws =
    AllByRecursion (λ w. (w.slot == slot) ≡ is_change_of (queries w.slot) t) ws

-- Returns whether there is an event and it came before a place.
abbrev pub came_before : ℕ → Option Event → Bool
came_before place None = false
came_before place (Some e) = nat_lt e.place place

-- Returns whether the listing of an observer was last looked at before a place.
abbrev pub was_looked_at_before : ℕ → List Event → Observer → Bool
was_looked_at_before place events o =
    came_before place (last_event (is_looking_for (name_of o)) events)

-- States that no transition is later than a place.
abbrev pub NoneLater : ℕ → List Transition → Type 0
NoneLater place transitions = AllByRecursion (λ t. t.place ≤ place) transitions

-- Returns what is due for a notification in flight, by the events that built and retransmitted it.
-- Nothing is due if there is none.
abbrev pub notification_due : ℕ → Option Flight → Again
notification_due now None = again.Wait
notification_due now (Some f) = due_at now f.formed f.again
