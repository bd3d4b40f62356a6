-- Empty acknowledgements and Resets, and what they do to notifications in flight and to fetches
-- (RFC 7252 sections 4.2 and 5.2.2, RFC 7641 section 3.6).
use Rattle.std.specs.Prelude.{
  ℕ,
  Bool,
  false,
  ◌&&◌,
  ◌==◌,
  List,
  [],
  ◌∷◌,
  ◌++◌,
  map,
  filter,
  Option,
  Some,
  None,
  if◌then◌else◌,
}
use Rattle.rd_base.specs.declared.peers.Peer.{Peer}
use Rattle.event_model.specs.declared.notes.Note.TheVariants as note
use Rattle.event_model.specs.declared.notes.Observer.{Observer}
use Rattle.event_model.specs.Same.{is_same_peer}
use Rattle.event_model.specs.Events.{Event}
use Rattle.event_model.specs.Observers.{observers}
use Rattle.event_model.specs.Flights.{Flight, flight}
use Rattle.event_model.specs.Fetches.{is_last_request}
use Rattle.journal_model.specs.Effects.{Effects, noting}

-- Returns whether the notification has this Message ID.
abbrev pub is_flight_of : ℕ → Option Flight → Bool
is_flight_of mid None = false
is_flight_of mid (Some f) = f.mid == mid

-- Returns the observers of a peer whose notification in flight has this Message ID: at most one.
abbrev pub waited_for : Peer → ℕ → List Event → List Observer
waited_for peer mid events =
    filter (λ o. is_same_peer o.peer peer && is_flight_of mid (flight o events)) (observers events)

-- Ends the flight of a notification by an acknowledgement, and makes a fetch wait for a separate
-- response.
unfoldable pub acknowledged : Peer → ℕ → List Event → Effects
acknowledged peer mid events =
    noting (map (λ o. note.Landed peer mid) (waited_for peer mid events)
    ++ (if is_last_request peer mid events then note.Waiting peer ∷ [] else []))

-- Removes the observer of a notification by a Reset, and ends the fetch.
unfoldable pub reset : Peer → ℕ → List Event → Effects
reset peer mid events =
    noting (map (λ o. note.Unwatched o.peer o.token) (waited_for peer mid events)
    ++ (if is_last_request peer mid events then note.Ceased peer ∷ [] else []))
