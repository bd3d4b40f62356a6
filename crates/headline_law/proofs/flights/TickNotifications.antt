-- What a tick builds: at most one notification for a peer, and none while one is in flight to it.
use Rattle.std.proofs.Common.{
  ◌≡◌,
  ◌⊎◌,
  ℕ,
  ◌&&◌,
  Bool,
  true,
  false,
  List,
  [],
  ◌++◌,
  length,
  Some,
  Ok,
  refl,
  sym,
  ap,
  subst,
  ◌∙◌,
  append-nil,
}
use Rattle.std.specs.Prelude.{is_some}
use Rattle.std.specs.List.{list_any, AllByRecursion}
use Rattle.std.proofs.lemmas.List.Folds.{list_any-append}
use Rattle.rd_base.specs.declared.peers.Peer.{Peer}
use Rattle.message_model.specs.Message.{Message}
use Rattle.message_model.specs.Reading.{reading}
use Rattle.history_model.specs.Listing.{listing, tag}
use Rattle.event_model.specs.declared.notes.Note.{Note}
use Rattle.event_model.specs.declared.notes.Note.TheVariants as note
use Rattle.event_model.specs.declared.notes.Observer.{Observer}
use Rattle.event_model.specs.Same.{is_same_peer}
use Rattle.event_model.specs.Events.{Event, noted}
use Rattle.event_model.specs.Observers.{name_of, observers}
use Rattle.event_model.specs.Flights.{is_forming_for}
use Rattle.event_model.proofs.NotedLaws.{noted-append}
use Rattle.journal_model.specs.declared.rows.Row.{Row}
use Rattle.journal_model.specs.Journal.{events, entries}
use Rattle.journal_model.specs.Effects.{Effects}
use Rattle.journal_model.specs.Ticks.{notifications}
use Rattle.journal_model.specs.Ticks.{notifications_again}
use Rattle.journal_model.specs.BodyFormers.{forms_notification}
use Rattle.journal_model.specs.CarriedBlocks.{is_content}
use Rattle.journal_model.proofs.sends.BodyAnswers.{wanted_by_observer, IsBodyOf}
use Rattle.rd_base.proofs.lemmas.Among.{Among}
use Rattle.journal_model.proofs.FlightKeys.{flight_key, is_landing, key_same_all}
use Rattle.journal_model.proofs.flights.WaitedPeers.{
  changes_observers,
  observers_same,
  Waits,
  flies_key,
}
use Rattle.journal_model.proofs.flights.NotificationsAgain.{
  AgainSent,
  AgainNoted,
  events_after_again,
}
use Rattle.std.proofs.lemmas.Bool.{or_left}
use Rattle.rd_base.proofs.lemmas.Each.{each_append, each_weaker}

-- the note builds a notification to a peer
abbrev pub is_notification_to : Peer → Note → Bool
is_notification_to peer (note.Formed p token body mid) = is_some mid && is_same_peer p peer
is_notification_to peer _ = false

-- the datagram has whatever listing it has from the listing of an observer now
abbrev pub IsNotificationOf : List Row → ℕ → Observer → List ℕ → Type 0
IsNotificationOf rows moment o octets =
    IsBodyOf (wanted_by_observer o) (listing o.query (entries rows) moment)
    (tag (entries rows) moment) octets

-- what a tick did so far to an observer that stands: its flight is as before, and where it has one
-- its peer got no notification; or a notification was built for it
pub data FlightSoFar (rows : List Row) (moment word : ℕ) (o : Observer) (done : Effects) : Type 0
  where
    as_before :
        flight_key o (noted (length rows) moment word done.notes (events rows))
        ≡ flight_key o (events rows)
        → (is_some (flight_key o (events rows)) ≡ true
        → list_any (is_notification_to o.peer) done.notes ≡ false)
        → FlightSoFar rows moment word o done
    notified : (mid : ℕ)
        → flight_key o (noted (length rows) moment word done.notes (events rows))
        ≡ Some (mid, length rows)
        → list_any (forms_notification o.peer mid) done.notes ≡ true
        → AllByRecursion
        (λ (d : Peer × List ℕ). is_same_peer d.0 o.peer ≡ true → IsNotificationOf rows moment o d.1)
        done.sent
        → FlightSoFar rows moment word o done

-- a new notification: of an observer that stands, whose peer was not waited for
pub record FreshSent (rows : List Row) (moment word : ℕ) (d : Peer × List ℕ) : Type 0 where
  pub observer : Observer
  pub stands : Among observer (observers (events_after_again rows moment word))
  pub of_peer : d.0 ≡ observer.peer
  pub body : IsNotificationOf rows moment observer d.1
  pub free : Waits observer.peer (events_after_again rows moment word) → ⊥

-- what holds of a tick so far
pub record TickSoFar (rows : List Row) (moment word : ℕ) (done : Effects) : Type 0 where
  pub stand :
      observers (noted (length rows) moment word done.notes (events rows))
      ≡ observers (events_after_again rows moment word)
  pub sends : AllByRecursion (λ (d : Peer × List ℕ).
      (m : Message)
      → reading d.1 ≡ Ok m
      → is_content m ≡ true
      → Waits d.0 (noted (length rows) moment word done.notes (events rows))) done.sent
  pub waits_on : (peer : Peer)
      → Waits peer (events_after_again rows moment word)
      → Waits peer (noted (length rows) moment word done.notes (events rows))
  pub origins : AllByRecursion
      (λ (d : Peer × List ℕ). AgainSent rows moment d ⊎ FreshSent rows moment word d) done.sent
  pub flights_so_far : (o : Observer)
      → Among o (observers (events_after_again rows moment word))
      → FlightSoFar rows moment word o done
  pub agains : AllByRecursion (AgainNoted rows moment) done.notes
  pub keeps : (test : Note → Bool)
      → list_any test (notifications_again rows moment).notes ≡ true
      → list_any test done.notes ≡ true

-- ---- notes that do nothing

-- where nothing is sent, and what is noted does nothing for flights and observers
pub so_far_quiet : (rows : List Row) (moment word : ℕ) (done : Effects) (more : List Note)
    (drew : ℕ)
    → ((o : Observer) → list_any (is_forming_for (name_of o)) more ≡ false)
    → list_any is_landing more ≡ false
    → list_any changes_observers more ≡ false
    → ((peer : Peer) → list_any (is_notification_to peer) more ≡ false)
    → AllByRecursion (AgainNoted rows moment) more
    → TickSoFar rows moment word done
    → TickSoFar rows moment word
    (record { sent = done.sent ++ []; notes = done.notes ++ more; drew = drew })
so_far_quiet rows moment word done more drew forming landing changing notifications agains it
    = record {
      stand =
          ap observers split
          ∙ (observers_same (length rows) moment word more Before changing ∙ it.stand);
      sends =
          subst (AllByRecursion (λ (d : Peer × List ℕ). (m : Message)
          → reading d.1 ≡ Ok m
          → is_content m ≡ true
          → Waits d.0 After)) (sym (append-nil done.sent))
          (each_weaker (λ (d : Peer × List ℕ).
          (m : Message) → reading d.1 ≡ Ok m → is_content m ≡ true → Waits d.0 Before)
          (λ (d : Peer × List ℕ).
          (m : Message) → reading d.1 ≡ Ok m → is_content m ≡ true → Waits d.0 After)
          (λ d h m e listed. on d.0 (h m e listed)) done.sent it.sends);
      waits_on = λ peer w. on peer (it.waits_on peer w);
      origins =
          subst (AllByRecursion
          (λ (d : Peer × List ℕ). AgainSent rows moment d ⊎ FreshSent rows moment word d))
          (sym (append-nil done.sent)) it.origins;
      flights_so_far = λ o stands. flight_so_far o (it.flights_so_far o stands);
      agains = each_append (AgainNoted rows moment) done.notes more it.agains agains;
      keeps =
          λ test h.
          list_any-append test done.notes more
          ∙ or_left (list_any test done.notes) (list_any test more) (it.keeps test h);
    }
  where
    Before : List Event
    Before = noted (length rows) moment word done.notes (events rows)

    After : List Event
    After = noted (length rows) moment word (done.notes ++ more) (events rows)

    split :
        noted (length rows) moment word (done.notes ++ more) (events rows)
        ≡ noted (length rows) moment word more
        (noted (length rows) moment word done.notes (events rows))
    split = noted-append (length rows) moment word done.notes more (events rows)

    key : (o : Observer)
        → flight_key o (noted (length rows) moment word (done.notes ++ more) (events rows))
        ≡ flight_key o (noted (length rows) moment word done.notes (events rows))
    key o =
        ap (flight_key o) split
        ∙ key_same_all o (length rows) moment word more
        (noted (length rows) moment word done.notes (events rows)) (forming o) landing

    on : (peer : Peer)
        → Waits peer (noted (length rows) moment word done.notes (events rows))
        → Waits peer (noted (length rows) moment word (done.notes ++ more) (events rows))
    on peer w = record {
      observer = w.observer;
      stands =
          subst (Among w.observer) (sym (ap observers split
          ∙ observers_same (length rows) moment word more
          (noted (length rows) moment word done.notes (events rows)) changing))
          w.stands;
      of_peer = w.of_peer;
      flies =
          flies_key w.observer (noted (length rows) moment word (done.notes ++ more) (events rows))
          ∙ (ap is_some (key w.observer)
          ∙ (sym (flies_key w.observer (noted (length rows) moment word done.notes (events rows)))
          ∙ w.flies));
    }

    flight_so_far : (o : Observer)
        → FlightSoFar rows moment word o done
        → FlightSoFar rows moment word o
        (record { sent = done.sent ++ []; notes = done.notes ++ more; drew = drew })
    flight_so_far o (as_before same none) =
        as_before (key o ∙ same) (λ some.
        list_any-append (is_notification_to o.peer) done.notes more
        ∙ rw (none some, notifications o.peer) refl)
    flight_so_far o (notified mid flies noted_so sent) =
        notified mid (key o ∙ flies) (list_any-append (forms_notification o.peer mid) done.notes
        more
        ∙ or_left (list_any (forms_notification o.peer mid) done.notes)
        (list_any (forms_notification o.peer mid) more) noted_so)
        (subst (AllByRecursion (λ (d : Peer × List ℕ). is_same_peer d.0 o.peer ≡ true
        → IsNotificationOf rows moment o d.1)) (sym (append-nil done.sent)) sent)
