-- A row of a tick: what it sends was built as the headline says, and the notifications in flight
-- after it are known.
use Rattle.std.proofs.Common.{
  ◌≡◌,
  ◌⊎◌,
  inl,
  inr,
  ℕ,
  ◌&&◌,
  ◌==◌,
  Bool,
  true,
  false,
  List,
  [],
  ◌∷◌,
  ◌++◌,
  Some,
  option_map,
  refl,
  sym,
  ap,
  subst,
  ◌∙◌,
}
use Rattle.std.specs.List.{list_any, AllByRecursion}
use Rattle.std.proofs.lemmas.Bool.{false≢true}
use Rattle.std.proofs.lemmas.List.Folds.{list_any-append}
use Rattle.std.proofs.lemmas.Option.{same_Some}
use Rattle.rd_base.specs.declared.peers.Peer.{Peer}
use Rattle.history_model.specs.Listing.{listing, tag}
use Rattle.event_model.specs.declared.notes.Note.{Note}
use Rattle.event_model.specs.declared.notes.Note.TheVariants as note
use Rattle.event_model.specs.declared.notes.Observer.{Observer}
use Rattle.event_model.specs.Same.{is_same_peer}
use Rattle.event_model.specs.Observers.{observers}
use Rattle.event_model.specs.Flights.{is_again_of}
use Rattle.event_model.proofs.SameLaws.{is_same_peer-Decides}
use Rattle.journal_model.specs.declared.steps.StepKind.TheVariants as step
use Rattle.journal_model.specs.declared.rows.Row.{Row}
use Rattle.journal_model.specs.Journal.{events, entries, row_at}
use Rattle.journal_model.specs.Effects.{Effects}
use Rattle.journal_model.specs.BodyFormers.{former_at}
use Rattle.journal_model.proofs.NoteKinds.{of_resent, are, none_of}
use Rattle.journal_model.proofs.sends.BodyAnswers.{wanted_by_observer, IsBodyOf, other_code}
use Rattle.journal_model.proofs.sends.PlainSteps.{IsPlain, ArePlain}
use Rattle.journal_model.proofs.sends.TickSends.{FoundSent, sent_by-FoundSent, mid_of_confirmable}
use Rattle.rd_base.proofs.lemmas.Among.{all_among}
use Rattle.journal_model.proofs.FlightKeys.{key_of}
use Rattle.journal_model.proofs.flights.WaitedPeers.{Waits}
use Rattle.journal_model.proofs.flights.NotificationsAgain.{
  again_peer,
  AgainSent,
  AgainNoted,
  events_after_again,
  again_waits,
}
use Rattle.headline_law.proofs.flights.TickNotifications.{IsNotificationOf, FreshSent, TickSoFar}
use Rattle.headline_law.proofs.flights.KnownFlights.{NotificationOf, FlightKnown, FlightsKnown}
use Rattle.headline_law.proofs.flights.CarriedListings.{Carried, stood_before, observer_formed}
use Rattle.std.proofs.lemmas.Bool.{or_left}
use Rattle.rd_base.proofs.lemmas.Each.{each_append, each_weaker}

-- a row of a tick: notifications, and then requests of fetches that are retransmitted
pub record TickRow (rows : List Row) (r : Row) : Type 0 where
  pub notified : Effects
  pub requests : Effects
  pub tick : r.step.kind ≡ step.Tick
  pub sent : r.sent ≡ notified.sent ++ requests.sent
  pub notes : r.notes ≡ notified.notes ++ requests.notes
  pub so_far : TickSoFar rows r.moment.0 r.step.word notified
  pub plain : ArePlain requests.sent
  pub resent : are of_resent requests.notes ≡ true
  pub same_entries : entries (r ∷ rows) ≡ entries rows
  pub known : FlightsKnown rows

-- requests do nothing for observers
pub requests_none : (test : Note → Bool)
    → ((peer : Peer) → test (note.Resent peer) ≡ false)
    → ((peer : Peer) → test (note.Ceased peer) ≡ false)
    → (notes : List Note)
    → are of_resent notes ≡ true
    → list_any test notes ≡ false
requests_none test resent ceased notes h = none_of of_resent test never notes h
  where
    never : (n : Note) → of_resent n ≡ true → test n ≡ false
    never (note.Resent peer) e = resent peer
    never (note.Ceased peer) e = ceased peer
    never _ e = absurd (false≢true e)

-- a notification that is retransmitted
again_carried : (rows : List Row) (r : Row)
    → (t : TickRow rows r)
    → (d : Peer × List ℕ)
    → AgainSent rows r.moment.0 d
    → Carried (record { row = r; before = rows }) d
again_carried rows r t d a m e listed _ =
    observer_formed (record { row = r; before = rows }) notification.placed a.observer d m t.tick
    a.again.stands (again_peer rows r.moment.0 d a) (found.holds found.to_peer m e listed)
    (subst (λ p. former_at step.Tick p m.mid
    (record { row = r; before = rows }) ≡ Some notification.placed)
    (sym (again_peer rows r.moment.0 d a))
    (subst (λ n. former_at step.Tick a.observer.peer n
    (record { row = r; before = rows }) ≡ Some notification.placed)
    (sym (mid_of_confirmable a.flight_is.mid d.1 m found.confirmable e))
    (rw again notification.last)))
  where
    notification : NotificationOf rows a.observer a.flight_is.mid a.flight_is.formed.place
    notification =
        all_among (FlightKnown rows) a.observer (observers (events rows)) t.known a.again.stands
        a.flight_is.mid a.flight_is.formed.place (ap (λ f. option_map key_of f) a.again.flies)

    To : Peer × List ℕ → Type 0
    To x = is_same_peer x.0 a.observer.peer ≡ true
        → IsBodyOf (wanted_by_observer a.observer)
        (listing a.observer.query (entries (notification.placed.row ∷ notification.placed.before))
        notification.placed.row.moment.0)
        (tag (entries (notification.placed.row ∷ notification.placed.before))
        notification.placed.row.moment.0)
        x.1

    found : FoundSent To a.observer.peer a.flight_is.mid d
    found =
        sent_by-FoundSent To (row_at a.flight_is.formed.place rows) a.observer.peer a.flight_is.mid
        d
        (λ x at.
        subst (λ (y : Row). AllByRecursion To y.sent)
        (same_Some notification.placed.row x (sym notification.at_place ∙ at)) notification.sent)
        a.found

    again : list_any (is_again_of a.observer.peer a.flight_is.mid) r.notes ≡ true
    again =
        subst (λ ns. list_any (is_again_of a.observer.peer a.flight_is.mid) ns ≡ true) (sym t.notes)
        (list_any-append (is_again_of a.observer.peer a.flight_is.mid) t.notified.notes
        t.requests.notes
        ∙ or_left (list_any (is_again_of a.observer.peer a.flight_is.mid) t.notified.notes)
        (list_any (is_again_of a.observer.peer a.flight_is.mid) t.requests.notes)
        (t.so_far.keeps (is_again_of a.observer.peer a.flight_is.mid) a.noted))

-- the listing of a row that notes no entry
pub as_row : (rows : List Row) (r : Row) (o : Observer) (octets : List ℕ)
    → entries (r ∷ rows) ≡ entries rows
    → IsNotificationOf rows r.moment.0 o octets
    → IsBodyOf (wanted_by_observer o) (listing o.query (entries (r ∷ rows)) r.moment.0)
    (tag (entries (r ∷ rows)) r.moment.0) octets
as_row rows r o octets same_entries h =
    subst (λ history.
    IsBodyOf (wanted_by_observer o) (listing o.query history r.moment.0)
    (tag history r.moment.0) octets) (sym same_entries) h

-- a new notification
fresh_carried : (rows : List Row) (r : Row)
    → (t : TickRow rows r)
    → (d : Peer × List ℕ)
    → FreshSent rows r.moment.0 r.step.word d
    → Carried (record { row = r; before = rows }) d
fresh_carried rows r t d f m e listed _ =
    observer_formed (record { row = r; before = rows }) (record { row = r; before = rows })
    f.observer d m t.tick (stood_before rows r.moment.0 r.step.word f.observer f.stands)
    f.of_peer
    (as_row rows r f.observer d.1 t.same_entries f.body m e listed)
    (rw none refl)
  where
    one : (n : Note) → AgainNoted rows r.moment.0 n → is_again_of d.0 m.mid n ≡ false
    one (note.Again p mid) a = by (is_same_peer p d.0) refl
      where
        by : (b : Bool) → is_same_peer p d.0 ≡ b → (is_same_peer p d.0 && mid == m.mid) ≡ false
        by true same =
            absurd (f.free (subst (λ q. Waits q (events_after_again rows r.moment.0 r.step.word))
            (a.of_peer ∙ ((is_same_peer-Decides p d.0).0 same ∙ f.of_peer))
            (again_waits rows r.moment.0 r.step.word a.observer a.flight_is a.again)))
        by false other = rw other refl
    one _ a = refl

    each : (notes : List Note)
        → AllByRecursion (AgainNoted rows r.moment.0) notes
        → list_any (is_again_of d.0 m.mid) notes ≡ false
    each [] all = refl
    each (n ∷ notes) all = rw (one n all.0, each notes all.1) refl

    none : list_any (is_again_of d.0 m.mid) r.notes ≡ false
    none = subst (λ ns. list_any (is_again_of d.0 m.mid) ns ≡ false) (sym t.notes)
        (list_any-append (is_again_of d.0 m.mid) t.notified.notes t.requests.notes
        ∙ rw (
          each t.notified.notes t.so_far.agains,
          requests_none (is_again_of d.0 m.mid)
              (λ p. refl) (λ p. refl) t.requests.notes t.resent,
        ) refl)

-- whatever a tick sends
pub tick_carried : (rows : List Row) (r : Row)
    → TickRow rows r
    → AllByRecursion (Carried (record { row = r; before = rows })) r.sent
tick_carried rows r t =
    subst (AllByRecursion (Carried (record { row = r; before = rows }))) (sym t.sent)
    (each_append (Carried (record { row = r; before = rows })) t.notified.sent t.requests.sent
    (each_weaker (λ (d : Peer × List ℕ).
    AgainSent rows r.moment.0 d ⊎ FreshSent rows r.moment.0 r.step.word d)
    (Carried (record { row = r; before = rows })) one t.notified.sent t.so_far.origins)
    (each_weaker (λ (d : Peer × List ℕ). IsPlain d.1) (Carried (record { row = r; before = rows }))
    (λ d plain m e listed _.
    absurd (false≢true (sym (other_code d.1 plain.no_content m e) ∙ listed)))
    t.requests.sent t.plain))
  where
    one : (d : Peer × List ℕ)
        → AgainSent rows r.moment.0 d ⊎ FreshSent rows r.moment.0 r.step.word d
        → Carried (record { row = r; before = rows }) d
    one d (inl a) = again_carried rows r t d a
    one d (inr f) = fresh_carried rows r t d f
