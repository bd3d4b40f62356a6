-- What is known of each notification in flight: the row that built it, and that it bears the
-- listing there.
use Rattle.std.proofs.Common.{
  ◌≡◌,
  ℕ,
  ◌<◌,
  Bool,
  true,
  false,
  List,
  ◌∷◌,
  length,
  Some,
  None,
  refl,
  sym,
  ◌∙◌,
  arith,
}
use Rattle.std.specs.List.{list_any, AllByRecursion}
use Rattle.std.proofs.lemmas.Bool.{false≢true, ne_eqb}
use Rattle.rd_base.specs.declared.peers.Peer.{Peer}
use Rattle.history_model.specs.Listing.{listing, tag}
use Rattle.rd_base.proofs.lemmas.Each.{each_weaker, none_pass, each_failing}
use Rattle.event_model.specs.declared.notes.Note.{Note}
use Rattle.event_model.specs.declared.notes.Note.TheVariants as note
use Rattle.event_model.specs.declared.notes.Observer.{Observer}
use Rattle.event_model.specs.Same.{is_same_peer}
use Rattle.event_model.specs.Events.{noted}
use Rattle.event_model.specs.Observers.{name_of, observers}
use Rattle.event_model.specs.Flights.{is_forming_for}
use Rattle.event_model.proofs.NotedLaws.{Found, last_event-here}
use Rattle.journal_model.specs.declared.rows.Row.{Row}
use Rattle.journal_model.specs.Journal.{events, entries, row_at}
use Rattle.journal_model.specs.PlacedRows.{Placed, last_row}
use Rattle.journal_model.specs.BodyFormers.{forms_notification, former_of_notification}
use Rattle.journal_model.proofs.sends.BodyAnswers.{wanted_by_observer, IsBodyOf}
use Rattle.journal_model.proofs.EventRows.{found_in}
use Rattle.journal_model.proofs.notes.LookupNotes.{OfWatched, observers_all}
use Rattle.journal_model.proofs.FlightKeys.{flight_key, key_before_all, is_notification, key_none}
use Rattle.rd_base.proofs.lemmas.Among.{all_among}

-- the row that built the notification to an observer under a Message ID, at a place
pub record NotificationOf (rows : List Row) (o : Observer) (mid place : ℕ) : Type 0 where
  pub placed : Placed
  pub last : former_of_notification o.peer mid rows ≡ Some placed
  pub below : place < length rows
  pub at_place : row_at place rows ≡ Some placed.row
  pub sent : AllByRecursion (λ (d : Peer × List ℕ). is_same_peer d.0 o.peer ≡ true
      → IsBodyOf (wanted_by_observer o)
      (listing o.query (entries (placed.row ∷ placed.before)) placed.row.moment.0)
      (tag (entries (placed.row ∷ placed.before)) placed.row.moment.0) d.1) placed.row.sent

-- whatever notification is in flight to an observer
abbrev pub FlightKnown : List Row → Observer → Type 0
FlightKnown rows o =
    (mid place : ℕ) → flight_key o (events rows) ≡ Some (mid, place)
    → NotificationOf rows o mid place

-- and to all that stand
abbrev pub FlightsKnown : List Row → Type 0
FlightsKnown rows = AllByRecursion (FlightKnown rows) (observers (events rows))

-- after a row that builds no notification to the peer with this Message ID
pub notification_of_row : (rows : List Row) (r : Row) (o : Observer) (mid place : ℕ)
    → list_any (forms_notification o.peer mid) r.notes ≡ false
    → NotificationOf rows o mid place
    → NotificationOf (r ∷ rows) o mid place
unfolding last_row row_at
notification_of_row rows r o mid place none it = record {
  placed = it.placed;
  last = rw none it.last;
  below = omega (arith, it.below);
  at_place =
      rw (ne_eqb place (length rows) (λ same. absurd (omega (arith, same, it.below)))) it.at_place;
  sent = it.sent;
}

-- notes that build no notification build none to a peer
no_notification_to : (peer : Peer) (mid : ℕ) (notes : List Note)
    → list_any is_notification notes ≡ false
    → list_any (forms_notification peer mid) notes ≡ false
no_notification_to peer mid notes none = none_pass is_notification (forms_notification peer mid) by
    notes none
  where
    by : (x : Note) → is_notification x ≡ false → forms_notification peer mid x ≡ false
    by (note.Formed p token body None) h = refl
    by (note.Formed p token body (Some m)) h = absurd (false≢true (sym h))
    by _ h = refl

-- where a row builds something for an observer, and no notification, none is in flight to it
none_in_flight : (rows : List Row) (r : Row) (o : Observer)
    → list_any is_notification r.notes ≡ false
    → list_any (is_forming_for (name_of o)) r.notes ≡ true
    → flight_key o (events (r ∷ rows)) ≡ None
unfolding events
none_in_flight rows r o none forms =
    let found : Found (is_forming_for (name_of o))
    (noted (length rows) r.moment.0 r.step.word r.notes (events rows)) (length rows)
    r.moment.0 =
    last_event-here (is_forming_for (name_of o)) (length rows) r.moment.0 r.step.word r.notes
    (events rows) forms in
    let it =
    found_in (is_forming_for (name_of o)) (length rows) r.moment.0 r.step.word r.notes
    (events rows) found.event forms found.last in
    key_none o (noted (length rows) r.moment.0 r.step.word r.notes (events rows)) found.event
    found.last
    (all_among (λ n. is_notification n ≡ false) found.event.note r.notes
    (each_failing is_notification (λ n. is_notification n ≡ false) (λ n h. h) r.notes none) it.0)

-- after a row that builds no notification, and whatever observer it adds is built for
pub flights_row : (rows : List Row) (r : Row)
    → list_any is_notification r.notes ≡ false
    → AllByRecursion (OfWatched (λ o. list_any (is_forming_for (name_of o)) r.notes ≡ true)) r.notes
    → FlightsKnown rows
    → FlightsKnown (r ∷ rows)
unfolding events
flights_row rows r none added all =
    observers_all (FlightKnown (r ∷ rows)) (length rows) r.moment.0 r.step.word r.notes
    (events rows)
    (each_weaker (OfWatched (λ o. list_any (is_forming_for (name_of o)) r.notes ≡ true))
    (OfWatched (FlightKnown (r ∷ rows))) new r.notes added)
    (each_weaker (FlightKnown rows) (FlightKnown (r ∷ rows)) stays (observers (events rows))
    all)
  where
    vacuous : (o : Observer)
        → list_any (is_forming_for (name_of o)) r.notes ≡ true
        → FlightKnown (r ∷ rows) o
    vacuous o forms mid place found =
        absurd (let both : None ≡ Some (mid, place) =
        sym (none_in_flight rows r o none forms) ∙ found in
        cc)

    new : (n : Note)
        → OfWatched (λ o. list_any (is_forming_for (name_of o)) r.notes ≡ true) n
        → OfWatched (FlightKnown (r ∷ rows)) n
    new (note.Watched o) h = vacuous o h
    new _ h = tt

    stays : (o : Observer) → FlightKnown rows o → FlightKnown (r ∷ rows) o
    stays o known = by (list_any (is_forming_for (name_of o)) r.notes) refl
      where
        by : (b : Bool)
            → list_any (is_forming_for (name_of o)) r.notes ≡ b
            → FlightKnown (r ∷ rows) o
        by true forms = vacuous o forms
        by false quiet = λ mid place found.
            notification_of_row rows r o mid place (no_notification_to o.peer mid r.notes none)
            (known mid place
            (key_before_all o (length rows) r.moment.0 r.step.word r.notes (events rows)
            (mid, place) quiet found))
