-- What a tick retransmits: notifications of observers that stand, and their peers are waited for
-- from then on.
use Rattle.std.proofs.Common.{
  ◌≡◌,
  inl,
  inr,
  ℕ,
  ◌==◌,
  Bool,
  true,
  false,
  List,
  [],
  ◌∷◌,
  length,
  Option,
  Some,
  None,
  refl,
  sym,
  ap,
  subst,
  ◌∙◌,
  nat_le,
}
use Rattle.std.specs.Prelude.{is_some}
use Rattle.std.specs.List.{list_any, AllByRecursion}
use Rattle.std.proofs.lemmas.Bool.{false≢true, and_from}
use Rattle.std.proofs.lemmas.List.Folds.{list_any-append}
use Rattle.rd_base.specs.declared.peers.Peer.{Peer}
use Rattle.event_model.specs.declared.notes.Note.{Note}
use Rattle.event_model.specs.declared.notes.Note.TheVariants as note
use Rattle.event_model.specs.declared.notes.Observer.{Observer}
use Rattle.event_model.specs.Same.{is_same_peer}
use Rattle.event_model.specs.Events.{Event, noted}
use Rattle.event_model.specs.Observers.{name_of, observers}
use Rattle.event_model.specs.Flights.{
  Flight,
  max_again,
  deadline,
  flight,
  is_again_of,
  is_forming_for,
}
use Rattle.event_model.proofs.SameLaws.{is_same_peer-Decides, is_same_peer-refl}
use Rattle.event_model.proofs.ObserverLaws.{observers-apart, Only, apart_only}
use Rattle.journal_model.specs.declared.rows.Row.{Row}
use Rattle.journal_model.specs.Journal.{events, row_at}
use Rattle.journal_model.specs.Effects.{Effects}
use Rattle.journal_model.specs.Ticks.{
  confirmable_sent,
  sent_again,
  each_of,
  notification_again,
  flight_again,
  notifications_again,
  due_by,
}
use Rattle.journal_model.proofs.NoteKinds.{of_again, none_of}
use Rattle.journal_model.proofs.StepNotes.{notifications_again-notes}
use Rattle.journal_model.proofs.sends.TickSends.{sent_by-FoundSent, each_of_sent}
use Rattle.rd_base.proofs.lemmas.Among.{Among, all_among, among_all}
use Rattle.journal_model.proofs.FlightKeys.{flight_key, is_landing, key_same_all}
use Rattle.journal_model.proofs.flights.WaitedPeers.{
  stands_on,
  Waits,
  flies_key,
  IsAgain,
  again_stands,
}
use Rattle.std.proofs.lemmas.Bool.{or_left, or_right}
use Rattle.rd_base.proofs.lemmas.Numbers.{eqb-refl}
use Rattle.rd_base.proofs.lemmas.Each.{each_one, each_append, each_failing}
use Rattle.journal_model.proofs.notes.LookupNotes.{OfWatched, observers_all}

-- what is noted for one is noted for all
each_of_any : {A : Type 0} (test : Note → Bool) (does : A → Effects) (x : A) (xs : List A)
    → Among x xs
    → list_any test (does x).notes ≡ true
    → list_any test (each_of does xs).notes ≡ true
each_of_any test does x [] nothing h = absurd nothing
each_of_any test does x (y ∷ ys) (inl same) h =
    list_any-append test (does y).notes (each_of does ys).notes
    ∙ or_left (list_any test (does y).notes) (list_any test (each_of does ys).notes)
    (subst (λ z. list_any test (does z).notes ≡ true) (sym same) h)
each_of_any test does x (y ∷ ys) (inr further) h =
    list_any-append test (does y).notes (each_of does ys).notes
    ∙ or_right (list_any test (does y).notes) (list_any test (each_of does ys).notes)
    (each_of_any test does x ys further h)

-- what holds of the notes of each holds of all
each_of_noted : {A : Type 0} (P : Note → Type 0) (does : A → Effects) (xs : List A)
    → AllByRecursion (λ x. AllByRecursion P (does x).notes) xs
    → AllByRecursion P (each_of does xs).notes
each_of_noted P does [] all = tt
each_of_noted P does (x ∷ xs) all =
    each_append P (does x).notes (each_of does xs).notes all.0 (each_of_noted P does xs all.1)

-- a message that is retransmitted: the notification of an observer, which is noted
pub record AgainSent (rows : List Row) (moment : ℕ) (d : Peer × List ℕ) : Type 0 where
  pub observer : Observer
  pub flight_is : Flight
  pub again : IsAgain rows moment observer flight_is
  pub found :
      confirmable_sent (row_at flight_is.formed.place rows) observer.peer flight_is.mid ≡ Some d
  pub noted :
      list_any (is_again_of observer.peer flight_is.mid) (notifications_again rows moment).notes
      ≡ true

-- the peer of what is retransmitted
pub again_peer : (rows : List Row) (moment : ℕ) (d : Peer × List ℕ)
    → (a : AgainSent rows moment d)
    → d.0 ≡ a.observer.peer
again_peer rows moment d a =
    let it =
    sent_by-FoundSent (λ (x : Peer × List ℕ). Unit {0}) (row_at a.flight_is.formed.place rows)
    a.observer.peer a.flight_is.mid d
    (λ r at. each_one (λ (x : Peer × List ℕ). Unit {0}) (λ x. tt) r.sent) a.found in
    (is_same_peer-Decides d.0 a.observer.peer).0 it.to_peer

-- what is noted of it
pub record AgainOf (rows : List Row) (moment : ℕ) (peer : Peer) : Type 0 where
  pub observer : Observer
  pub flight_is : Flight
  pub again : IsAgain rows moment observer flight_is
  pub of_peer : observer.peer ≡ peer

-- so it is of each such note
abbrev pub AgainNoted : List Row → ℕ → Note → Type 0
AgainNoted rows moment (note.Again peer mid) = AgainOf rows moment peer
AgainNoted rows moment _ = Unit {0}

-- the messages of the first part of a tick
pub again_sends : (rows : List Row) (moment : ℕ)
    → AllByRecursion (AgainSent rows moment) (notifications_again rows moment).sent
unfolding notifications_again
again_sends rows moment =
    each_of_sent (AgainSent rows moment) does (observers (events rows))
    (among_all (λ o.
    AllByRecursion (AgainSent rows moment)
    (flight_again rows moment o (flight o (events rows))).sent)
    (observers (events rows)) (λ o stands. flying o stands (flight o (events rows)) refl))
  where
    does : Observer → Effects
    does o = flight_again rows moment o (flight o (events rows))

    here : (o : Observer) (f : Flight) (d : Option (Peer × List ℕ))
        → list_any (is_again_of o.peer f.mid) (sent_again d (note.Again o.peer f.mid)).notes ≡ true
    here o f None =
        or_left _ false
        (and_from (is_same_peer o.peer o.peer) (f.mid == f.mid) (is_same_peer-refl o.peer)
        (eqb-refl f.mid))
    here o f (Some d) =
        or_left _ false
        (and_from (is_same_peer o.peer o.peer) (f.mid == f.mid) (is_same_peer-refl o.peer)
        (eqb-refl f.mid))

    again : (b c : Bool) (o : Observer) (f : Flight)
        → Among o (observers (events rows))
        → flight o (events rows) ≡ Some f
        → nat_le (deadline f.formed f.again) moment ≡ b
        → nat_le max_again (length f.again) ≡ c
        → AllByRecursion (AgainSent rows moment) (notification_again (due_by b c) rows o f).sent
    again false c o f stands flies over more = tt
    again true true o f stands flies over more = tt
    again true false o f stands flies over more =
        sent (confirmable_sent (row_at f.formed.place rows) o.peer f.mid) refl
      where
        noted_here :
            list_any (is_again_of o.peer f.mid)
            (flight_again rows moment o (flight o (events rows))).notes
            ≡ true
        noted_here =
            subst (λ x.
            list_any (is_again_of o.peer f.mid) (flight_again rows moment o x).notes ≡ true)
            (sym flies)
            (subst (λ b.
            list_any (is_again_of o.peer f.mid)
            (notification_again (due_by b (nat_le max_again (length f.again))) rows o f).notes
            ≡ true) (sym over)
            (subst (λ c.
            list_any (is_again_of o.peer f.mid) (notification_again (due_by true c) rows o f).notes
            ≡ true)
            (sym more) (here o f (confirmable_sent (row_at f.formed.place rows) o.peer f.mid))))

        sent : (d : Option (Peer × List ℕ))
            → confirmable_sent (row_at f.formed.place rows) o.peer f.mid ≡ d
            → AllByRecursion (AgainSent rows moment) (sent_again d (note.Again o.peer f.mid)).sent
        sent None e = tt
        sent (Some d) e = (
          record {
            observer = o;
            flight_is = f;
            again = record { stands = stands; flies = flies; over = over; again = more };
            found = e;
            noted =
                each_of_any (is_again_of o.peer f.mid)
                (λ x. flight_again rows moment x (flight x (events rows))) o
                (observers (events rows)) stands noted_here;
          },
          tt,
        )

    flying : (o : Observer)
        → Among o (observers (events rows))
        → (f : Option Flight)
        → flight o (events rows) ≡ f
        → AllByRecursion (AgainSent rows moment) (flight_again rows moment o f).sent
    flying o stands None flies = tt
    flying o stands (Some f) flies =
        again (nat_le (deadline f.formed f.again) moment) (nat_le max_again (length f.again)) o f
        stands flies refl refl

-- the notes of the first part of a tick
pub again_notes : (rows : List Row) (moment : ℕ)
    → AllByRecursion (AgainNoted rows moment) (notifications_again rows moment).notes
unfolding notifications_again
again_notes rows moment =
    each_of_noted (AgainNoted rows moment)
    (λ o. flight_again rows moment o (flight o (events rows))) (observers (events rows))
    (among_all (λ o.
    AllByRecursion (AgainNoted rows moment)
    (flight_again rows moment o (flight o (events rows))).notes)
    (observers (events rows)) (λ o stands. flying o stands (flight o (events rows)) refl))
  where
    sent : (o : Observer) (f : Flight) (d : Option (Peer × List ℕ))
        → IsAgain rows moment o f
        → AllByRecursion (AgainNoted rows moment) (sent_again d (note.Again o.peer f.mid)).notes
    sent o f None it = (record { observer = o; flight_is = f; again = it; of_peer = refl }, tt)
    sent o f (Some d) it = (record { observer = o; flight_is = f; again = it; of_peer = refl }, tt)

    again : (b c : Bool) (o : Observer) (f : Flight)
        → Among o (observers (events rows))
        → flight o (events rows) ≡ Some f
        → nat_le (deadline f.formed f.again) moment ≡ b
        → nat_le max_again (length f.again) ≡ c
        → AllByRecursion (AgainNoted rows moment) (notification_again (due_by b c) rows o f).notes
    again false c o f stands flies over more = tt
    again true true o f stands flies over more = (tt, tt)
    again true false o f stands flies over more =
        sent o f (confirmable_sent (row_at f.formed.place rows) o.peer f.mid)
        (record { stands = stands; flies = flies; over = over; again = more })

    flying : (o : Observer)
        → Among o (observers (events rows))
        → (f : Option Flight)
        → flight o (events rows) ≡ f
        → AllByRecursion (AgainNoted rows moment) (flight_again rows moment o f).notes
    flying o stands None flies = tt
    flying o stands (Some f) flies =
        again (nat_le (deadline f.formed f.again) moment) (nat_le max_again (length f.again)) o f
        stands flies refl refl

-- ---- after the first part

-- it builds nothing and acknowledges nothing
pub again_none : (test : Note → Bool)
    → ((peer : Peer) (token : List ℕ) → test (note.Unwatched peer token) ≡ false)
    → ((peer : Peer) (mid : ℕ) → test (note.Again peer mid) ≡ false)
    → (rows : List Row) (moment : ℕ)
    → list_any test (notifications_again rows moment).notes ≡ false
again_none test unwatched again rows moment =
    none_of of_again test never (notifications_again rows moment).notes
    (notifications_again-notes rows moment)
  where
    never : (n : Note) → of_again n ≡ true → test n ≡ false
    never (note.Unwatched peer token) h = unwatched peer token
    never (note.Again peer mid) h = again peer mid
    never _ h = absurd (false≢true h)

-- the events after it
abbrev pub events_after_again : List Row → ℕ → ℕ → List Event
events_after_again rows moment word =
    noted (length rows) moment word (notifications_again rows moment).notes (events rows)

-- flights are the same after it
pub again_key : (rows : List Row) (moment word : ℕ) (o : Observer)
    → flight_key o (events_after_again rows moment word) ≡ flight_key o (events rows)
again_key rows moment word o =
    key_same_all o (length rows) moment word (notifications_again rows moment).notes (events rows)
    (again_none (is_forming_for (name_of o)) (λ p t. refl) (λ p m. refl) rows moment)
    (again_none is_landing (λ p t. refl) (λ p m. refl) rows moment)

-- and the peers of what is retransmitted are waited for
pub again_waits : (rows : List Row) (moment word : ℕ) (o : Observer) (f : Flight)
    → IsAgain rows moment o f
    → Waits o.peer (events_after_again rows moment word)
again_waits rows moment word o f it = record {
  observer = o;
  stands = stands_on o (length rows) moment word (notifications_again rows moment).notes
      (events rows)
      (again_stands rows moment o f it
      (all_among (λ x. Only x (observers (events rows))) o (observers (events rows))
      (apart_only (observers (events rows)) (observers-apart (events rows))) it.stands))
      it.stands;
  of_peer = is_same_peer-refl o.peer;
  flies =
      flies_key o (events_after_again rows moment word)
      ∙ (ap is_some (again_key rows moment word o)
      ∙ (sym (flies_key o (events rows)) ∙ ap is_some it.flies));
}

-- ---- who stands

-- who stands after the first part stood before it
pub stood : (rows : List Row) (moment word : ℕ) (P : Observer → Type 0)
    → AllByRecursion P (observers (events rows))
    → AllByRecursion P (observers (events_after_again rows moment word))
stood rows moment word P all =
    observers_all P (length rows) moment word (notifications_again rows moment).notes (events rows)
    (each_failing is_added (OfWatched P) one (notifications_again rows moment).notes
    (again_none is_added (λ p t. refl) (λ p m. refl) rows moment)) all
  where
    is_added : Note → Bool
    is_added (note.Watched o) = true
    is_added _ = false

    one : (n : Note) → is_added n ≡ false → OfWatched P n
    one (note.Watched o) h = absurd (false≢true (sym h))
    one _ h = tt
