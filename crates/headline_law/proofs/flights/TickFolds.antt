-- All notifications of a tick, one after the other.
use Rattle.std.proofs.Common.{
  ◌≡◌,
  ◌⊎◌,
  inl,
  ℕ,
  ◌+◌,
  ◌&&◌,
  Bool,
  true,
  false,
  not,
  cond,
  List,
  [],
  ◌∷◌,
  ◌++◌,
  fold,
  Some,
  Ok,
  refl,
  sym,
  ap,
  subst,
  ◌∙◌,
  nat_le,
}
use Rattle.std.specs.List.{list_any, AllByRecursion}
use Rattle.std.proofs.lemmas.Bool.{false≢true, and_parts}
use Rattle.rd_base.specs.declared.peers.Peer.{Peer}
use Rattle.message_model.specs.Message.{Message}
use Rattle.history_model.specs.Listing.{listing, tag}
use Rattle.event_model.specs.declared.notes.Note.{Note}
use Rattle.event_model.specs.declared.notes.Note.TheVariants as note
use Rattle.event_model.specs.declared.notes.Observer.{Observer}
use Rattle.event_model.specs.Same.{is_same_request}
use Rattle.event_model.specs.Observers.{name_of, observers, observe_value, last_body_formed}
use Rattle.event_model.specs.Flights.{is_forming_for, is_waited_for}
use Rattle.event_model.specs.Due.{is_due}
use Rattle.event_model.proofs.ObserverLaws.{observers-apart, Only, apart_only}
use Rattle.journal_model.specs.declared.steps.Step.{Step}
use Rattle.journal_model.specs.declared.rows.Row.{Row}
use Rattle.journal_model.specs.Journal.{entries}
use Rattle.journal_model.specs.Effects.{Effects, mid_of}
use Rattle.journal_model.specs.Bodies.{is_long}
use Rattle.journal_model.specs.Ticks.{
  max_notifications,
  first_block,
  listing_for,
  is_unchanged,
  is_looked_at,
  events_with,
  ticking,
  notified_unless,
  notified_if,
  notification_next,
  notifications_again,
  notifications,
}
use Rattle.journal_model.specs.CarriedBlocks.{is_content}
use Rattle.journal_model.proofs.notes.LookupNotes.{IsAsking}
use Rattle.journal_model.proofs.sends.BodyAnswers.{tag-length, notification_bears}
use Rattle.rd_base.proofs.lemmas.Among.{Among, all_among, among_all}
use Rattle.journal_model.proofs.FlightKeys.{is_landing}
use Rattle.journal_model.proofs.flights.WaitedPeers.{changes_observers, Waits, waited}
use Rattle.journal_model.proofs.flights.NotificationsAgain.{
  again_peer,
  AgainSent,
  AgainNoted,
  again_notes,
  again_sends,
  again_none,
  events_after_again,
  again_key,
  again_waits,
}
use Rattle.headline_law.proofs.flights.TickNotifications.{
  is_notification_to,
  as_before,
  TickSoFar,
  so_far_quiet,
  FreshSent,
}
use Rattle.message_model.specs.Reading.{reading}
use Rattle.headline_law.proofs.flights.FreshNotifications.{NewNotification, so_far_notified}
use Rattle.rd_base.proofs.lemmas.Each.{each_weaker}

-- after its first part
pub tick_begins : (rows : List Row) (moment word : ℕ)
    → TickSoFar rows moment word (notifications_again rows moment)
tick_begins rows moment word = record {
  stand = refl;
  sends =
      each_weaker (AgainSent rows moment) (λ (d : Peer × List ℕ).
      (m : Message)
      → reading d.1 ≡ Ok m
      → is_content m ≡ true
      → Waits d.0 (events_after_again rows moment word))
      (λ d a m e listed.
      subst (λ p. Waits p (events_after_again rows moment word))
      (sym (again_peer rows moment d a))
      (again_waits rows moment word a.observer a.flight_is a.again))
      (notifications_again rows moment).sent (again_sends rows moment);
  waits_on = λ peer w. w;
  origins =
      each_weaker (AgainSent rows moment)
      (λ (d : Peer × List ℕ). AgainSent rows moment d ⊎ FreshSent rows moment word d)
      (λ d a. inl a) (notifications_again rows moment).sent (again_sends rows moment);
  flights_so_far =
      λ o stands.
      as_before (again_key rows moment word o)
      (λ some. again_none (is_notification_to o.peer) (λ p t. refl) (λ p m. refl) rows moment);
  agains = again_notes rows moment;
  keeps = λ test h. h;
}

-- an answer that is kept does nothing for observers
kept_does : (test : Note → Bool)
    → ((peer : Peer) (key body current : List ℕ) → test (note.Kept peer key body current) ≡ false)
    → (b : Bool) (peer : Peer) (key body current : List ℕ)
    → list_any test (cond b (note.Kept peer key body current ∷ []) []) ≡ false
kept_does test never true peer key body current = rw (never peer key body current) refl
kept_does test never false peer key body current = refl

-- and is no note of what is retransmitted
kept_again : (rows : List Row) (moment : ℕ) (b : Bool) (peer : Peer) (key body current : List ℕ)
    → AllByRecursion (AgainNoted rows moment) (cond b (note.Kept peer key body current ∷ []) [])
kept_again rows moment true peer key body current = (tt, tt)
kept_again rows moment false peer key body current = tt

-- one observer
tick_step : (rows : List Row) (moment : ℕ) (s : Step) (x : Observer) (done : Effects)
    → Among x (observers (events_after_again rows moment s.word))
    → IsAsking x
    → TickSoFar rows moment s.word done
    → TickSoFar rows moment s.word (notification_next (ticking rows moment s) done x)
tick_step rows moment s x done stands asking it =
    looked (is_looked_at (ticking rows moment s) done x) refl
  where
    not_waited : is_looked_at (ticking rows moment s) done x ≡ true
        → Waits x.peer (events_with (ticking rows moment s) done)
        → ⊥
    not_waited e w =
        let both =
        and_parts (not (nat_le max_notifications done.drew)
        && is_due x (events_with (ticking rows moment s) done)
        (ticking rows moment s).transitions)
        (not (is_waited_for x.peer (events_with (ticking rows moment s) done))) e in
        false≢true
        (sym (ap not (waited x.peer (events_with (ticking rows moment s) done) w)) ∙ both.1)

    only : (o : Observer)
        → Among o (observers (events_after_again rows moment s.word))
        → is_same_request (name_of x) (name_of o) ≡ true
        → x ≡ o
    only o there same =
        all_among (λ y. is_same_request (name_of y) (name_of o) ≡ true → y ≡ o) x
        (observers (events_after_again rows moment s.word))
        (all_among (λ y. Only y (observers (events_after_again rows moment s.word))) o
        (observers (events_after_again rows moment s.word))
        (apart_only (observers (events_after_again rows moment s.word))
        (observers-apart (events_after_again rows moment s.word))) there) stands same

    new : is_looked_at (ticking rows moment s) done x ≡ true
        → NewNotification rows moment s.word done
    new e = record {
      observer = x;
      mid = mid_of s.worker (s.drawn + done.drew);
      body = listing x.query (entries rows) moment;
      octets = _;
      kept =
          cond (is_long (first_block x) (listing x.query (entries rows) moment))
          (note.Kept x.peer x.key (listing x.query (entries rows) moment)
          (tag (entries rows) moment)
          ∷ []) [];
      stands = stands;
      only = only;
      free = not_waited e;
      notification =
          notification_bears (mid_of s.worker (s.drawn + done.drew)) (tag (entries rows) moment)
          (Some (observe_value (events_with (ticking rows moment s) done)))
          x (listing x.query (entries rows) moment) asking.token (tag-length (entries rows) moment)
          asking.szx;
      forms_none =
          λ o.
          kept_does (is_forming_for (name_of o)) (λ p k b c. refl)
          (is_long (first_block x) (listing x.query (entries rows) moment)) x.peer x.key _
          _;
      lands_none =
          kept_does is_landing (λ p k b c. refl)
          (is_long (first_block x) (listing x.query (entries rows) moment)) x.peer x.key _ _;
      changes_none =
          kept_does changes_observers (λ p k b c. refl)
          (is_long (first_block x) (listing x.query (entries rows) moment)) x.peer x.key _ _;
      agains =
          kept_again rows moment (is_long (first_block x) (listing x.query (entries rows) moment))
          x.peer x.key _ _;
      notifies_none =
          λ peer.
          kept_does (is_notification_to peer) (λ p k b c. refl)
          (is_long (first_block x) (listing x.query (entries rows) moment)) x.peer x.key _
          _;
    }

    unless : (b : Bool)
        → is_looked_at (ticking rows moment s) done x ≡ true
        → TickSoFar rows moment s.word (record {
          sent =
              done.sent
              ++ (notified_unless b (ticking rows moment s) done x
              (listing_for (ticking rows moment s) x)).sent;
          notes =
              done.notes
              ++ (notified_unless b (ticking rows moment s) done x
              (listing_for (ticking rows moment s) x)).notes;
          drew =
              done.drew
              + (notified_unless b (ticking rows moment s) done x
              (listing_for (ticking rows moment s) x)).drew;
        })
    unless true e =
        so_far_quiet rows moment s.word done (note.Unchanged x.peer x.token ∷ []) (done.drew + 0)
        (λ o. refl) refl refl (λ peer. refl) (tt, tt) it
    unless false e = so_far_notified rows moment s.word done (new e) (done.drew + 1) it

    looked : (b : Bool)
        → is_looked_at (ticking rows moment s) done x ≡ b
        → TickSoFar rows moment s.word (record {
          sent = done.sent ++ (notified_if b (ticking rows moment s) done x).sent;
          notes = done.notes ++ (notified_if b (ticking rows moment s) done x).notes;
          drew = done.drew + (notified_if b (ticking rows moment s) done x).drew;
        })
    looked true e =
        unless
        (is_unchanged (last_body_formed (name_of x) (events_with (ticking rows moment s) done))
        (listing_for (ticking rows moment s) x).body) e
    looked false e =
        so_far_quiet rows moment s.word done [] (done.drew + 0) (λ o. refl) refl refl (λ peer. refl)
        tt it

-- all of them
tick_folds : (rows : List Row) (moment : ℕ) (s : Step) (left : List Observer) (done : Effects)
    → AllByRecursion (λ x. Among x (observers (events_after_again rows moment s.word)) × IsAsking x)
    left
    → TickSoFar rows moment s.word done
    → TickSoFar rows moment s.word (fold (notification_next (ticking rows moment s)) done left)
tick_folds rows moment s [] done known it = it
tick_folds rows moment s (x ∷ left) done known it =
    tick_folds rows moment s left (notification_next (ticking rows moment s) done x) known.1
    (tick_step rows moment s x done known.0.0 known.0.1 it)

-- after its notifications
pub tick_notifies : (rows : List Row) (moment : ℕ) (s : Step)
    → ((x : Observer) → Among x (observers (events_after_again rows moment s.word)) → IsAsking x)
    → TickSoFar rows moment s.word (notifications (ticking rows moment s)
    (notifications_again rows moment))
unfolding notifications
tick_notifies rows moment s asking =
    tick_folds rows moment s (observers (events_after_again rows moment s.word))
    (notifications_again rows moment)
    (among_all (λ x. Among x (observers (events_after_again rows moment s.word)) × IsAsking x)
    (observers (events_after_again rows moment s.word)) (λ x stands. (stands, asking x stands)))
    (tick_begins rows moment s.word)
