-- After a row of a tick, the notifications in flight are known.
use Rattle.std.proofs.Common.{
  ◌≡◌,
  ℕ,
  true,
  false,
  List,
  ◌∷◌,
  length,
  Option,
  Some,
  None,
  refl,
  sym,
  ap,
  subst,
  ◌∙◌,
  arith,
}
use Rattle.std.specs.Prelude.{is_some}
use Rattle.std.specs.List.{list_any, AllByRecursion}
use Rattle.std.proofs.lemmas.List.Folds.{list_any-append}
use Rattle.std.proofs.lemmas.Option.{same_Some}
use Rattle.rd_base.specs.declared.peers.Peer.{Peer}
use Rattle.history_model.specs.Listing.{listing, tag}
use Rattle.event_model.specs.declared.notes.Note.{Note}
use Rattle.event_model.specs.declared.notes.Note.TheVariants as note
use Rattle.event_model.specs.declared.notes.Observer.{Observer}
use Rattle.event_model.specs.Same.{is_same_peer}
use Rattle.event_model.specs.Events.{noted}
use Rattle.event_model.specs.Observers.{name_of, observers}
use Rattle.event_model.specs.Flights.{is_forming_for}
use Rattle.event_model.proofs.NotedLaws.{noted-append}
use Rattle.journal_model.specs.declared.rows.Row.{Row}
use Rattle.journal_model.specs.Journal.{events, entries, row_at}
use Rattle.journal_model.specs.PlacedRows.{last_row}
use Rattle.journal_model.specs.BodyFormers.{forms_notification}
use Rattle.journal_model.proofs.sends.BodyAnswers.{
  wanted_by_observer,
  IsBodyOf,
  none_of_any,
  other_code,
}
use Rattle.rd_base.proofs.lemmas.Among.{Among, all_among, among_all}
use Rattle.journal_model.proofs.FlightKeys.{flight_key, is_landing, key_same_all}
use Rattle.journal_model.proofs.flights.WaitedPeers.{changes_observers, observers_same}
use Rattle.journal_model.proofs.flights.NotificationsAgain.{events_after_again, stood}
use Rattle.headline_law.proofs.flights.TickNotifications.{
  is_notification_to,
  IsNotificationOf,
  FlightSoFar,
  as_before,
  notified,
}
use Rattle.headline_law.proofs.flights.KnownFlights.{
  NotificationOf,
  FlightKnown,
  FlightsKnown,
  notification_of_row,
}
use Rattle.headline_law.proofs.rows.TickRows.{TickRow, requests_none, as_row}
use Rattle.std.proofs.lemmas.Bool.{or_left}
use Rattle.rd_base.proofs.lemmas.Numbers.{eqb-refl}
use Rattle.rd_base.proofs.lemmas.Each.{each_append, none_pass, each_weaker}
use Rattle.journal_model.proofs.sends.PlainSteps.{IsPlain}

-- where no notification goes to a peer, none goes to it with a Message ID
none_with : (peer : Peer) (mid : ℕ) (notes : List Note)
    → list_any (is_notification_to peer) notes ≡ false
    → list_any (forms_notification peer mid) notes ≡ false
none_with peer mid notes h = none_pass (is_notification_to peer) (forms_notification peer mid) by
    notes h
  where
    by : (x : Note) → is_notification_to peer x ≡ false → forms_notification peer mid x ≡ false
    by (note.Formed p token body None) e = refl
    by (note.Formed p token body (Some m)) e = rw e refl
    by _ e = refl

-- the events of the row
events_after_requests : (rows : List Row) (r : Row)
    → (t : TickRow rows r)
    → events (r ∷ rows)
    ≡ noted (length rows) r.moment.0 r.step.word t.requests.notes
    (noted (length rows) r.moment.0 r.step.word t.notified.notes (events rows))
unfolding events
events_after_requests rows r t =
    ap (λ ns. noted (length rows) r.moment.0 r.step.word ns (events rows)) t.notes
    ∙ noted-append (length rows) r.moment.0 r.step.word t.notified.notes t.requests.notes
    (events rows)

-- the same stand as after its first part
standing_of : (rows : List Row) (r : Row)
    → TickRow rows r
    → observers (events (r ∷ rows)) ≡ observers (events_after_again rows r.moment.0 r.step.word)
standing_of rows r t =
    ap observers (events_after_requests rows r t)
    ∙ (observers_same (length rows) r.moment.0 r.step.word t.requests.notes
    (noted (length rows) r.moment.0 r.step.word t.notified.notes (events rows))
    (requests_none changes_observers (λ p. refl) (λ p. refl) t.requests.notes t.resent)
    ∙ t.so_far.stand)

-- flights are as after its notifications
key_of_row : (rows : List Row) (r : Row)
    → (t : TickRow rows r)
    → (o : Observer)
    → flight_key o (events (r ∷ rows))
    ≡ flight_key o (noted (length rows) r.moment.0 r.step.word t.notified.notes (events rows))
key_of_row rows r t o =
    ap (flight_key o) (events_after_requests rows r t)
    ∙ key_same_all o (length rows) r.moment.0 r.step.word t.requests.notes
    (noted (length rows) r.moment.0 r.step.word t.notified.notes (events rows))
    (requests_none (is_forming_for (name_of o)) (λ p. refl) (λ p. refl) t.requests.notes t.resent)
    (requests_none is_landing (λ p. refl) (λ p. refl) t.requests.notes t.resent)

-- a notification that this row built
formed_here : (rows : List Row) (r : Row)
    → (t : TickRow rows r)
    → (o : Observer) (mid : ℕ)
    → list_any (forms_notification o.peer mid) t.notified.notes ≡ true
    → AllByRecursion
    (λ (d : Peer × List ℕ). is_same_peer d.0 o.peer ≡ true → IsNotificationOf rows r.moment.0 o d.1)
    t.notified.sent
    → NotificationOf (r ∷ rows) o mid (length rows)
unfolding last_row row_at
formed_here rows r t o mid noted_so sent = record {
  placed = record { row = r; before = rows };
  last = rw here refl;
  below = omega arith;
  at_place = rw (eqb-refl (length rows)) refl;
  sent = subst (AllByRecursion To) (sym t.sent)
      (each_append To t.notified.sent t.requests.sent (each_weaker (λ (d : Peer × List ℕ).
      is_same_peer d.0 o.peer ≡ true → IsNotificationOf rows r.moment.0 o d.1) To
      (λ d h same. as_row rows r o d.1 t.same_entries (h same)) t.notified.sent sent)
      (each_weaker (λ (d : Peer × List ℕ). IsPlain d.1) To (λ d plain same.
      none_of_any (wanted_by_observer o) (listing o.query (entries (r ∷ rows)) r.moment.0)
      (tag (entries (r ∷ rows)) r.moment.0) d.1 (other_code d.1 plain.no_content))
      t.requests.sent t.plain));
}
  where
    To : Peer × List ℕ → Type 0
    To d =
        is_same_peer d.0 o.peer ≡ true
        → IsBodyOf (wanted_by_observer o) (listing o.query (entries (r ∷ rows)) r.moment.0)
        (tag (entries (r ∷ rows)) r.moment.0) d.1

    here : list_any (forms_notification o.peer mid) r.notes ≡ true
    here = subst (λ ns. list_any (forms_notification o.peer mid) ns ≡ true) (sym t.notes)
        (list_any-append (forms_notification o.peer mid) t.notified.notes t.requests.notes
        ∙ or_left (list_any (forms_notification o.peer mid) t.notified.notes)
        (list_any (forms_notification o.peer mid) t.requests.notes) noted_so)

-- one that an earlier row built
formed_before : (rows : List Row) (r : Row)
    → (t : TickRow rows r)
    → (o : Observer) (mid place : ℕ)
    → list_any (is_notification_to o.peer) t.notified.notes ≡ false
    → NotificationOf rows o mid place
    → NotificationOf (r ∷ rows) o mid place
formed_before rows r t o mid place none it =
    notification_of_row rows r o mid place
    (subst (λ ns. list_any (forms_notification o.peer mid) ns ≡ false) (sym t.notes)
    (list_any-append (forms_notification o.peer mid) t.notified.notes t.requests.notes
    ∙ rw (
      none_with o.peer mid t.notified.notes none,
      requests_none (forms_notification o.peer mid)
          (λ p. refl) (λ p. refl) t.requests.notes t.resent,
    ) refl)) it

-- whatever is in flight
pub tick_flights : (rows : List Row) (r : Row) → TickRow rows r → FlightsKnown (r ∷ rows)
tick_flights rows r t =
    subst (AllByRecursion (FlightKnown (r ∷ rows))) (sym (standing_of rows r t))
    (among_all (FlightKnown (r ∷ rows)) (observers (events_after_again rows r.moment.0 r.step.word))
    (λ o stands mid place found. known o stands mid place (sym (key_of_row rows r t o) ∙ found)
    (t.so_far.flights_so_far o stands)))
  where
    before : (o : Observer)
        → Among o (observers (events_after_again rows r.moment.0 r.step.word))
        → FlightKnown rows o
    before o stands =
        all_among (FlightKnown rows) o (observers (events_after_again rows r.moment.0 r.step.word))
        (stood rows r.moment.0 r.step.word (FlightKnown rows) t.known) stands

    same_pair : (a b c d : ℕ)
        → ◌≡◌ {A = Option (ℕ × ℕ)} (Some (a, b)) (Some (c, d))
        → (a ≡ c) × (b ≡ d)
    same_pair a b c d e =
        let pair : ◌≡◌ {A = ℕ × ℕ} (a, b) (c, d) = same_Some (a, b) (c, d) e in
        (ap (λ (x : ℕ × ℕ). x.0) pair, ap (λ (x : ℕ × ℕ). x.1) pair)

    known : (o : Observer)
        → Among o (observers (events_after_again rows r.moment.0 r.step.word))
        → (mid place : ℕ)
        → flight_key o (noted (length rows) r.moment.0 r.step.word t.notified.notes (events rows))
        ≡ Some (mid, place)
        → FlightSoFar rows r.moment.0 r.step.word o t.notified
        → NotificationOf (r ∷ rows) o mid place
    known o stands mid place found (as_before same none) =
        let was : flight_key o (events rows) ≡ Some (mid, place) = sym same ∙ found in
        formed_before rows r t o mid place (none (ap is_some was)) (before o stands mid place was)
    known o stands mid place found (notified n flies noted_so sent) =
        let both = same_pair n (length rows) mid place (sym flies ∙ found) in
        subst (λ k. NotificationOf (r ∷ rows) o k place) both.0
        (subst (λ k. NotificationOf (r ∷ rows) o n k) both.1
        (formed_here rows r t o n noted_so sent))
