-- One more notification of a tick: its peer was not waited for, and is from then on.
use Rattle.std.proofs.Common.{
  ◌≡◌,
  ◌⊎◌,
  inr,
  ℕ,
  ◌&&◌,
  ◌==◌,
  Bool,
  true,
  false,
  List,
  [],
  ◌∷◌,
  ◌++◌,
  length,
  Some,
  Ok,
  refl,
  sym,
  ap,
  subst,
  ◌∙◌,
}
use Rattle.std.specs.Prelude.{is_some}
use Rattle.std.specs.List.{list_any, AllByRecursion}
use Rattle.std.proofs.lemmas.Bool.{false≢true, and_from}
use Rattle.std.proofs.lemmas.List.Folds.{list_any-append}
use Rattle.rd_base.specs.declared.peers.Peer.{Peer}
use Rattle.message_model.specs.Message.{Message}
use Rattle.message_model.specs.Reading.{reading}
use Rattle.event_model.specs.declared.notes.Note.{Note}
use Rattle.event_model.specs.declared.notes.Note.TheVariants as note
use Rattle.event_model.specs.declared.notes.Observer.{Observer}
use Rattle.event_model.specs.Same.{is_same_peer, is_same_request}
use Rattle.event_model.specs.Events.{Event, noted}
use Rattle.event_model.specs.Observers.{name_of, observers}
use Rattle.event_model.specs.Flights.{flight, is_forming_for}
use Rattle.event_model.proofs.SameLaws.{is_same_peer-refl, is_same_peer-Decides}
use Rattle.event_model.proofs.NotedLaws.{event_at, noted-append}
use Rattle.journal_model.specs.declared.rows.Row.{Row}
use Rattle.journal_model.specs.Journal.{events}
use Rattle.journal_model.specs.Effects.{Effects}
use Rattle.journal_model.specs.BodyFormers.{forms_notification}
use Rattle.rd_base.proofs.lemmas.Among.{Among}
use Rattle.journal_model.specs.CarriedBlocks.{is_content}
use Rattle.journal_model.proofs.FlightKeys.{flight_key, is_landing, key_same_all, key_formed}
use Rattle.journal_model.proofs.flights.WaitedPeers.{
  changes_observers,
  observers_same,
  Waits,
  flies_key,
}
use Rattle.journal_model.proofs.flights.NotificationsAgain.{
  AgainSent,
  AgainNoted,
  events_after_again,
}
use Rattle.headline_law.proofs.flights.TickNotifications.{
  is_notification_to,
  IsNotificationOf,
  FlightSoFar,
  as_before,
  notified,
  FreshSent,
  TickSoFar,
}
use Rattle.std.proofs.lemmas.Bool.{or_left, or_right}
use Rattle.rd_base.proofs.lemmas.Numbers.{eqb-refl}
use Rattle.rd_base.proofs.lemmas.Each.{each_append, each_weaker}

-- a new notification, with what is kept of it
pub record NewNotification (rows : List Row) (moment word : ℕ) (done : Effects) : Type 0 where
  pub observer : Observer
  pub mid : ℕ
  pub body : List ℕ
  pub octets : List ℕ
  pub kept : List Note
  pub stands : Among observer (observers (events_after_again rows moment word))
  pub only : (o : Observer)
      → Among o (observers (events_after_again rows moment word))
      → is_same_request (name_of observer) (name_of o) ≡ true
      → observer ≡ o
  pub free : Waits observer.peer (noted (length rows) moment word done.notes (events rows)) → ⊥
  pub notification : IsNotificationOf rows moment observer octets
  pub forms_none : (o : Observer) → list_any (is_forming_for (name_of o)) kept ≡ false
  pub lands_none : list_any is_landing kept ≡ false
  pub changes_none : list_any changes_observers kept ≡ false
  pub notifies_none : (peer : Peer) → list_any (is_notification_to peer) kept ≡ false
  pub agains : AllByRecursion (AgainNoted rows moment) kept

-- the notes and the effects of it
abbrev pub notes_of : {rows : List Row}
    → {moment word : ℕ}
    → {done : Effects}
    → NewNotification rows moment word done
    → List Note
notes_of new = note.Formed new.observer.peer new.observer.token new.body (Some new.mid) ∷ new.kept

-- what a tick did so far, with it
abbrev pub with_notification : {rows : List Row}
    → {moment word : ℕ}
    → {done : Effects}
    → NewNotification rows moment word done
    → ℕ
    → Effects
with_notification {done = done} new drew = record {
  sent = done.sent ++ (new.observer.peer, new.octets) ∷ [];
  notes = done.notes ++ notes_of new;
  drew = drew;
}

-- all that is known so far is known with it
pub so_far_notified : (rows : List Row) (moment word : ℕ) (done : Effects)
    (new : NewNotification rows moment word done) (drew : ℕ)
    → TickSoFar rows moment word done
    → TickSoFar rows moment word (with_notification new drew)
so_far_notified rows moment word done new drew it = record {
  stand =
      ap observers split
      ∙ (observers_same (length rows) moment word (notes_of new) Before changing ∙ it.stand);
  sends =
      each_append (λ (d : Peer × List ℕ).
      (m : Message) → reading d.1 ≡ Ok m → is_content m ≡ true → Waits d.0 After) done.sent
      ((new.observer.peer, new.octets) ∷ [])
      (each_weaker (λ (d : Peer × List ℕ).
      (m : Message) → reading d.1 ≡ Ok m → is_content m ≡ true → Waits d.0 Before)
      (λ (d : Peer × List ℕ).
      (m : Message) → reading d.1 ≡ Ok m → is_content m ≡ true → Waits d.0 After)
      (λ d h m e listed. on d.0 (h m e listed)) done.sent it.sends)
      ((λ m e listed. x_waits), tt);
  waits_on = λ peer w. on peer (it.waits_on peer w);
  origins =
      each_append (λ (d : Peer × List ℕ). AgainSent rows moment d ⊎ FreshSent rows moment word d)
      done.sent ((new.observer.peer, new.octets) ∷ []) it.origins (
        inr
            (record {
              observer = new.observer;
              stands = new.stands;
              of_peer = refl;
              body = new.notification;
              free = λ w. new.free (it.waits_on new.observer.peer w);
            }),
        tt,
      );
  flights_so_far = λ o stands. flight_so_far o stands (it.flights_so_far o stands);
  agains =
      each_append (AgainNoted rows moment) done.notes (notes_of new) it.agains (tt, new.agains);
  keeps =
      λ test h.
      list_any-append test done.notes (notes_of new)
      ∙ or_left (list_any test done.notes) (list_any test (notes_of new)) (it.keeps test h);
}
  where
    Before : List Event
    Before = noted (length rows) moment word done.notes (events rows)

    After : List Event
    After = noted (length rows) moment word (done.notes ++ notes_of new) (events rows)

    split :
        noted (length rows) moment word (done.notes ++ notes_of new) (events rows)
        ≡ noted (length rows) moment word (notes_of new)
        (noted (length rows) moment word done.notes (events rows))
    split = noted-append (length rows) moment word done.notes (notes_of new) (events rows)

    changing : list_any changes_observers (notes_of new) ≡ false
    changing = new.changes_none

    landing : list_any is_landing (notes_of new) ≡ false
    landing = new.lands_none

    -- another observer's flight
    key : (o : Observer) → is_same_request (name_of new.observer) (name_of o) ≡ false
        → flight_key o (noted (length rows) moment word (done.notes ++ notes_of new) (events rows))
        ≡ flight_key o (noted (length rows) moment word done.notes (events rows))
    key o other =
        ap (flight_key o) split
        ∙ key_same_all o (length rows) moment word (notes_of new)
        (noted (length rows) moment word done.notes (events rows)) (rw other (new.forms_none o))
        landing

    -- its own
    own_key :
        flight_key new.observer
        (noted (length rows) moment word (done.notes ++ notes_of new) (events rows))
        ≡ Some (new.mid, length rows)
    own_key =
        ap (flight_key new.observer) split
        ∙ (key_same_all new.observer (length rows) moment word new.kept
        (event_at (length rows) moment word
        (note.Formed new.observer.peer new.observer.token new.body (Some new.mid))
        ∷ noted (length rows) moment word done.notes (events rows))
        (new.forms_none new.observer) new.lands_none
        ∙ key_formed new.observer (length rows) moment word new.body new.mid
        (noted (length rows) moment word done.notes (events rows)))

    same_standing :
        observers (noted (length rows) moment word (done.notes ++ notes_of new) (events rows))
        ≡ observers (noted (length rows) moment word done.notes (events rows))
    same_standing =
        ap observers split
        ∙ observers_same (length rows) moment word (notes_of new)
        (noted (length rows) moment word done.notes (events rows)) changing

    -- its peer is waited for
    x_waits : Waits new.observer.peer
        (noted (length rows) moment word (done.notes ++ notes_of new) (events rows))
    x_waits = record {
      observer = new.observer;
      stands = subst (Among new.observer) (sym (same_standing ∙ it.stand)) new.stands;
      of_peer = is_same_peer-refl new.observer.peer;
      flies =
          flies_key new.observer
          (noted (length rows) moment word (done.notes ++ notes_of new) (events rows))
          ∙ ap is_some own_key;
    }

    -- one with a flight has another peer, and so another name
    peers_apart : (o : Observer)
        → Waits o.peer (noted (length rows) moment word done.notes (events rows))
        → is_same_peer new.observer.peer o.peer ≡ false
    peers_apart o w = by (is_same_peer new.observer.peer o.peer) refl
      where
        by : (b : Bool)
            → is_same_peer new.observer.peer o.peer ≡ b
            → is_same_peer new.observer.peer o.peer ≡ false
        by true e =
            absurd (new.free
            (subst (λ p. Waits p (noted (length rows) moment word done.notes (events rows)))
            (sym ((is_same_peer-Decides new.observer.peer o.peer).0 e)) w))
        by false e = e

    names_apart : (o : Observer)
        → is_same_peer new.observer.peer o.peer ≡ false
        → is_same_request (name_of new.observer) (name_of o) ≡ false
    names_apart o other = rw other refl

    flying : (o : Observer)
        → Among o (observers (noted (length rows) moment word done.notes (events rows)))
        → is_some (flight o (noted (length rows) moment word done.notes (events rows))) ≡ true
        → Waits o.peer (noted (length rows) moment word done.notes (events rows))
    flying o stands flies = record {
      observer = o;
      stands = stands;
      of_peer = is_same_peer-refl o.peer;
      flies = flies;
    }

    -- whom was waited for still is
    on : (peer : Peer)
        → Waits peer (noted (length rows) moment word done.notes (events rows))
        → Waits peer (noted (length rows) moment word (done.notes ++ notes_of new) (events rows))
    on peer w =
        let other =
        names_apart w.observer (peers_apart w.observer (flying w.observer w.stands w.flies)) in
        record {
          observer = w.observer;
          stands = subst (Among w.observer) (sym same_standing) w.stands;
          of_peer = w.of_peer;
          flies =
              flies_key w.observer
              (noted (length rows) moment word (done.notes ++ notes_of new) (events rows))
              ∙ (ap is_some (key w.observer other)
              ∙ (sym (flies_key w.observer
              (noted (length rows) moment word done.notes (events rows)))
              ∙ w.flies));
        }

    -- one whose flight is known to be there is waited for
    known_flying : (o : Observer)
        → Among o (observers (events_after_again rows moment word))
        → is_some (flight_key o (noted (length rows) moment word done.notes (events rows))) ≡ true
        → Waits o.peer (noted (length rows) moment word done.notes (events rows))
    known_flying o stands flies =
        flying o (subst (Among o) (sym it.stand) stands)
        (flies_key o (noted (length rows) moment word done.notes (events rows)) ∙ flies)

    -- nothing was sent to it before
    none_before : (d : Peer × List ℕ)
        → ((m : Message)
        → reading d.1 ≡ Ok m
        → is_content m ≡ true
        → Waits d.0 (noted (length rows) moment word done.notes (events rows)))
        → is_same_peer d.0 new.observer.peer ≡ true → IsNotificationOf rows moment new.observer d.1
    none_before d h same m e listed =
        absurd (new.free
        (subst (λ p. Waits p (noted (length rows) moment word done.notes (events rows)))
        ((is_same_peer-Decides d.0 new.observer.peer).0 same) (h m e listed)))

    -- the notification was built for it
    was_notified : FlightSoFar rows moment word new.observer (with_notification new drew)
    was_notified = notified new.mid own_key
        (list_any-append (forms_notification new.observer.peer new.mid) done.notes (notes_of new)
        ∙ or_right (list_any (forms_notification new.observer.peer new.mid) done.notes)
        (list_any (forms_notification new.observer.peer new.mid) (notes_of new))
        (or_left (is_same_peer new.observer.peer new.observer.peer && new.mid == new.mid)
        (list_any (forms_notification new.observer.peer new.mid) new.kept)
        (and_from (is_same_peer new.observer.peer new.observer.peer) (new.mid == new.mid)
        (is_same_peer-refl new.observer.peer) (eqb-refl new.mid))))
        (each_append (λ (d : Peer × List ℕ).
        is_same_peer d.0 new.observer.peer ≡ true → IsNotificationOf rows moment new.observer d.1)
        done.sent ((new.observer.peer, new.octets) ∷ [])
        (each_weaker (λ (d : Peer × List ℕ).
        (m : Message) → reading d.1 ≡ Ok m → is_content m ≡ true → Waits d.0 Before)
        (λ (d : Peer × List ℕ).
        is_same_peer d.0 new.observer.peer ≡ true → IsNotificationOf rows moment new.observer d.1)
        none_before done.sent it.sends) ((λ same. new.notification), tt))

    -- the others
    flight_so_far : (o : Observer)
        → Among o (observers (events_after_again rows moment word))
        → FlightSoFar rows moment word o done
        → FlightSoFar rows moment word o (with_notification new drew)
    flight_so_far o stands (notified mid flies noted_so sent) =
        let apart = peers_apart o (known_flying o stands (ap is_some flies)) in
        notified mid (key o (names_apart o apart) ∙ flies)
        (list_any-append (forms_notification o.peer mid) done.notes (notes_of new)
        ∙ or_left (list_any (forms_notification o.peer mid) done.notes)
        (list_any (forms_notification o.peer mid) (notes_of new)) noted_so)
        (each_append
        (λ (d : Peer × List ℕ). is_same_peer d.0 o.peer ≡ true → IsNotificationOf rows moment o d.1)
        done.sent ((new.observer.peer, new.octets) ∷ []) sent
        ((λ same. absurd (false≢true (sym apart ∙ same))), tt))
    flight_so_far o stands (as_before same none) =
        by (is_same_request (name_of new.observer) (name_of o)) refl
      where
        by : (b : Bool)
            → is_same_request (name_of new.observer) (name_of o) ≡ b
            → FlightSoFar rows moment word o (with_notification new drew)
        by true e =
            subst (λ y. FlightSoFar rows moment word y (with_notification new drew))
            (new.only o stands e)
            was_notified
        by false e = as_before (key o e ∙ same) (λ some.
            list_any-append (is_notification_to o.peer) done.notes (notes_of new)
            ∙ rw (
              none some,
              peers_apart o (known_flying o stands (ap is_some same ∙ some)),
              new.notifies_none o.peer,
            ) refl)
