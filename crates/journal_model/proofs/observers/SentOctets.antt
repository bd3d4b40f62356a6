-- The octets of messages that wait: what earlier rows sent is as before with one row more, so
-- notifications in flight and requests of fetches show the same octets. End theorems, for what
-- keeps the observers and the fetches of a journal: nothing here cites them.
use Rattle.std.proofs.Common.{
  ◌≡◌,
  ℕ,
  ◌<◌,
  ◌&&◌,
  Bool,
  true,
  false,
  cond,
  List,
  [],
  ◌∷◌,
  length,
  map,
  find,
  filter_map,
  Option,
  Some,
  None,
  option_map,
  option_and_then,
  unwrap_or,
  refl,
  ap,
  ap₂,
  arith,
}
use Rattle.std.specs.List.{cons_option}
use Rattle.std.proofs.lemmas.Bool.{ne_eqb}
use Rattle.std.proofs.lemmas.Option.{same_Some}
use Rattle.rd_base.specs.declared.peers.Peer.{Peer}
use Rattle.rd_base.proofs.lemmas.Numbers.{eqb-refl}
use Rattle.event_model.specs.declared.notes.Observer.{Observer}
use Rattle.event_model.specs.Same.{is_same_peer}
use Rattle.event_model.specs.Events.{Event, has_event, last_event, events_since}
use Rattle.event_model.specs.Observers.{name_of, observers}
use Rattle.event_model.specs.Flights.{
  is_forming_for,
  notification_mid,
  is_landing_of,
  Flight,
  flight_after,
  flight,
  waiting_notification,
}
use Rattle.event_model.specs.Due.{Transition, Watching, watching, observers_standing}
use Rattle.event_model.specs.Fetches.{
  Request,
  Fetch,
  is_request_to,
  request_noted,
  last_request,
  fetches,
  fetch_asked,
  fetch_of,
  fetches_running,
}
use Rattle.event_model.proofs.FlightLaws.{waiting_notification-octets}
use Rattle.journal_model.specs.declared.rows.Row.{Row}
use Rattle.journal_model.specs.Journal.{events, row_at}
use Rattle.journal_model.specs.Ticks.{is_confirmable_with, octets_sent}
use Rattle.journal_model.proofs.EventRows.{RowOf, row_of}

-- what an earlier row sent
pub octets_sent-before : (rows : List Row) (r : Row) (place : ℕ) (peer : Peer) (mid : ℕ)
    → place < length rows
    → octets_sent (r ∷ rows) place peer mid ≡ octets_sent rows place peer mid
unfolding octets_sent row_at
octets_sent-before rows r place peer mid low =
    rw (ne_eqb place (length rows) (λ same. absurd (omega (arith, same, low)))) refl

-- and what the new row sends
pub octets_sent-own : (rows : List Row) (r : Row) (peer : Peer) (mid : ℕ)
    → octets_sent (r ∷ rows) (length rows) peer mid
    ≡ unwrap_or (option_map (λ d. d.1)
    (find (λ d. is_same_peer d.0 peer && is_confirmable_with mid d.1) r.sent)) []
unfolding octets_sent row_at
octets_sent-own rows r peer mid = rw (eqb-refl (length rows)) refl

-- ---- notifications in flight

-- the row that built a notification in flight stands in the journal
flight_below : (rows : List Row) (o : Observer) (f : Flight)
    → flight o (events rows) ≡ Some f
    → f.formed.place < length rows
unfolding flight
flight_below rows o f flies = by (last_event (is_forming_for (name_of o)) (events rows)) refl flies
  where
    landed : (e : Event) (mid : ℕ) (b : Bool) (again : List Event)
        → e.place < length rows
        → cond b None (Some (record { mid = mid; formed = e; again = again })) ≡ Some f
        → f.formed.place < length rows
    landed e mid true again low h = absurd (let no : None ≡ Some f = h in cc)
    landed e mid false again low h =
        let same =
        ap (λ (x : Flight). x.formed.place)
        (same_Some (record { mid = mid; formed = e; again = again }) f h) in
        omega (arith, same, low)

    with_mid : (e : Event) (mid : Option ℕ)
        → e.place < length rows
        → option_and_then
        (flight_after o.peer e (events_since (is_forming_for (name_of o)) (events rows))) mid
        ≡ Some f
        → f.formed.place < length rows
    with_mid e None low h = absurd (let no : None ≡ Some f = h in cc)
    with_mid e (Some mid) low h =
        landed e mid (has_event (is_landing_of o.peer mid)
        (events_since (is_forming_for (name_of o)) (events rows))) _ low h

    by : (last : Option Event) → last_event (is_forming_for (name_of o)) (events rows) ≡ last
        → option_and_then (λ x.
        option_and_then (flight_after o.peer x
        (events_since (is_forming_for (name_of o)) (events rows)))
        (notification_mid x.note)) last
        ≡ Some f
        → f.formed.place < length rows
    by None found h = absurd (let no : None ≡ Some f = h in cc)
    by (Some e) found h =
        let it : RowOf (is_forming_for (name_of o)) rows e =
        row_of (is_forming_for (name_of o)) rows e found in
        with_mid e (notification_mid e.note) it.below h

-- so what waits for an observer shows the same
pub waiting_notification-row : (rows : List Row) (r : Row) (o : Observer)
    → waiting_notification (octets_sent (r ∷ rows)) (events rows) o
    ≡ waiting_notification (octets_sent rows) (events rows) o
waiting_notification-row rows r o =
    waiting_notification-octets (octets_sent (r ∷ rows)) (octets_sent rows) o (events rows)
    (λ f flies.
    octets_sent-before rows r f.formed.place o.peer f.mid (flight_below rows o f flies))

pub observers_standing-row : (rows : List Row) (r : Row) (seen : List Transition)
    → observers_standing (octets_sent (r ∷ rows)) (events rows) seen
    ≡ observers_standing (octets_sent rows) (events rows) seen
unfolding observers_standing
observers_standing-row rows r seen = each (observers (events rows))
  where
    one : (o : Observer)
        → watching (octets_sent (r ∷ rows)) (events rows) seen o
        ≡ watching (octets_sent rows) (events rows) seen o
    one o = rw (waiting_notification-row rows r o) refl

    each : (standing : List Observer)
        → map (watching (octets_sent (r ∷ rows)) (events rows) seen) standing
        ≡ map (watching (octets_sent rows) (events rows) seen) standing
    each [] = refl
    each (o ∷ standing) = ap₂ (λ (w : Watching) ws. w ∷ ws) (one o) (each standing)

-- ---- fetches

fetch_of-row : (rows : List Row) (r : Row) (peer : Peer)
    → fetch_of (octets_sent (r ∷ rows)) (events rows) peer
    ≡ fetch_of (octets_sent rows) (events rows) peer
fetch_of-row rows r peer = by (last_request peer (events rows)) refl
  where
    asked : (e : Event)
        → e.place < length rows
        → (o : Option Request)
        → option_map (fetch_asked (octets_sent (r ∷ rows)) (events rows) peer e) o
        ≡ option_map (fetch_asked (octets_sent rows) (events rows) peer e) o
    asked e low None = refl
    asked e low (Some request) = rw (octets_sent-before rows r e.place peer request.mid low) refl

    by : (last : Option Event) → last_request peer (events rows) ≡ last
        → option_and_then (λ e.
        option_map (fetch_asked (octets_sent (r ∷ rows)) (events rows) peer e)
        (request_noted e.note)) last
        ≡ option_and_then (λ e.
        option_map (fetch_asked (octets_sent rows) (events rows) peer e)
        (request_noted e.note)) last
    by None found = refl
    by (Some e) found =
        let it : RowOf (is_request_to peer) rows e = row_of (is_request_to peer) rows e found in
        asked e it.below (request_noted e.note)

-- so the fetches that run show the same
pub fetches_running-row : (rows : List Row) (r : Row)
    → fetches_running (octets_sent (r ∷ rows)) (events rows)
    ≡ fetches_running (octets_sent rows) (events rows)
unfolding fetches_running
fetches_running-row rows r = each (fetches (events rows))
  where
    each : (peers : List Peer)
        → filter_map (fetch_of (octets_sent (r ∷ rows)) (events rows)) peers
        ≡ filter_map (fetch_of (octets_sent rows) (events rows)) peers
    each [] = refl
    each (peer ∷ peers) =
        ap₂ (λ (f : Option Fetch) fs. cons_option f fs) (fetch_of-row rows r peer) (each peers)
