-- Who stands after the first part of a tick, and whom it waits for: notifications that are
-- retransmitted keep their observers.
use Rattle.std.proofs.Common.{
  ◌≡◌,
  ℕ,
  ◌&&◌,
  Bool,
  true,
  false,
  not,
  List,
  [],
  ◌∷◌,
  ◌++◌,
  length,
  filter,
  Option,
  Some,
  None,
  option_map,
  refl,
  sym,
  ap,
  subst,
  ◌∙◌,
  append-nil,
  nat_le,
}
use Rattle.std.specs.Prelude.{is_some}
use Rattle.std.specs.List.{list_any}
use Rattle.std.proofs.lemmas.Bool.{false≢true, and_from}
use Rattle.std.proofs.lemmas.List.Folds.{list_any-append}
use Rattle.rd_base.specs.declared.peers.Peer.{Peer}
use Rattle.rd_base.proofs.lemmas.Filters.{filter_all}
use Rattle.event_model.specs.declared.notes.Note.{Note}
use Rattle.event_model.specs.declared.notes.Note.TheVariants as note
use Rattle.event_model.specs.declared.notes.Observer.{Observer}
use Rattle.event_model.specs.Same.{RequestName, is_same_peer, is_same_request}
use Rattle.event_model.specs.Events.{Event, noted}
use Rattle.event_model.specs.Observers.{name_of, is_end_of, observer_added, observers}
use Rattle.event_model.specs.Flights.{Flight, max_again, deadline, flight, is_waited_for}
use Rattle.event_model.proofs.NotedLaws.{event_at}
use Rattle.event_model.proofs.ObserverLaws.{Only}
use Rattle.journal_model.specs.declared.rows.Row.{Row}
use Rattle.journal_model.specs.Journal.{events, row_at}
use Rattle.journal_model.specs.Ticks.{
  confirmable_sent,
  sent_again,
  each_of,
  notification_again,
  flight_again,
  notifications_again,
  due_by,
}
use Rattle.rd_base.proofs.lemmas.Among.{Among, any_among, among_front, among_filter}
use Rattle.journal_model.proofs.FlightKeys.{key_of, flight_key}
use Rattle.std.proofs.lemmas.Bool.{or_parts}
use Rattle.rd_base.proofs.lemmas.Each.{each_one}

-- ---- who stands

-- the note adds or removes an observer
abbrev pub changes_observers : Note → Bool
changes_observers (note.Watched o) = true
changes_observers (note.Unwatched peer token) = true
changes_observers _ = false

-- else it ends nobody
none_ends : (n : Note)
    → changes_observers n ≡ false
    → (o : Observer)
    → not (is_end_of n (name_of o)) ≡ true
none_ends (note.Watched x) h o = absurd (false≢true (sym h))
none_ends (note.Unwatched peer token) h o = absurd (false≢true (sym h))
none_ends _ h o = refl

-- and adds nobody
none_added : (n : Note) → changes_observers n ≡ false → observer_added n ≡ []
none_added (note.Watched x) h = absurd (false≢true (sym h))
none_added _ h = refl

-- where none is added or removed, the same stand
pub observers_same : (place moment word : ℕ) (notes : List Note) (before : List Event)
    → list_any changes_observers notes ≡ false
    → observers (noted place moment word notes before) ≡ observers before
unfolding observers
observers_same place moment word [] before quiet = refl
observers_same place moment word (n ∷ notes) before quiet =
    let both = or_parts (changes_observers n) (list_any changes_observers notes) quiet in
    observers_same place moment word notes (event_at place moment word n ∷ before) both.1
    ∙ (ap (λ more. filter (λ o. not (is_end_of n (name_of o))) (observers before) ++ more)
    (none_added n both.0)
    ∙ (append-nil (filter (λ o. not (is_end_of n (name_of o))) (observers before))
    ∙ filter_all (λ o. not (is_end_of n (name_of o))) (observers before)
    (each_one (λ o. not (is_end_of n (name_of o)) ≡ true) (none_ends n both.0)
    (observers before))))

-- one whom no note ends stands on
pub stands_on : (o : Observer) (place moment word : ℕ) (notes : List Note) (before : List Event)
    → list_any (λ n. is_end_of n (name_of o)) notes ≡ false
    → Among o (observers before)
    → Among o (observers (noted place moment word notes before))
unfolding observers
stands_on o place moment word [] before quiet stands = stands
stands_on o place moment word (n ∷ notes) before quiet stands =
    let both =
    or_parts (is_end_of n (name_of o)) (list_any (λ x. is_end_of x (name_of o)) notes) quiet in
    stands_on o place moment word notes (event_at place moment word n ∷ before) both.1
    (among_front o (filter (λ x. not (is_end_of n (name_of x))) (observers before))
    (observer_added n)
    (among_filter (λ x. not (is_end_of n (name_of x))) o (observers before) stands (ap not both.0)))

-- ---- whom is waited for

-- a notification is in flight to an observer of the peer
pub record Waits (peer : Peer) (past : List Event) : Type 0 where
  pub observer : Observer
  pub stands : Among observer (observers past)
  pub of_peer : is_same_peer observer.peer peer ≡ true
  pub flies : is_some (flight observer past) ≡ true

-- then the peer is waited for
pub waited : (peer : Peer) (past : List Event) → Waits peer past → is_waited_for peer past ≡ true
unfolding is_waited_for
waited peer past w =
    any_among (λ o. is_same_peer o.peer peer && is_some (flight o past)) w.observer (observers past)
    w.stands
    (and_from (is_same_peer w.observer.peer peer) (is_some (flight w.observer past)) w.of_peer
    w.flies)

-- a flight, and its key
pub flies_key : (o : Observer) (past : List Event)
    → is_some (flight o past) ≡ is_some (flight_key o past)
flies_key o past = by (flight o past)
  where
    by : (f : Option Flight) → is_some f ≡ is_some (option_map key_of f)
    by None = refl
    by (Some f) = refl

-- ---- the first part of a tick

-- an observer whose notification is retransmitted
pub record IsAgain (rows : List Row) (moment : ℕ) (o : Observer) (f : Flight) : Type 0 where
  pub stands : Among o (observers (events rows))
  pub flies : flight o (events rows) ≡ Some f
  pub over : nat_le (deadline f.formed f.again) moment ≡ true
  pub again : nat_le max_again (length f.again) ≡ false

-- what the first part of a tick does to an observer
abbrev pub again_of : List Row → ℕ → Observer → List Note
again_of rows moment o = (flight_again rows moment o (flight o (events rows))).notes

-- a message that is retransmitted ends nobody
again_ends_none : (d : Option (Peer × List ℕ)) (peer : Peer) (mid : ℕ) (name : RequestName)
    → list_any (λ n. is_end_of n name) (sent_again d (note.Again peer mid)).notes ≡ false
again_ends_none None peer mid name = refl
again_ends_none (Some d) peer mid name = refl

-- an observer whose notification is retransmitted is not removed
again_stays : (rows : List Row) (moment : ℕ) (o : Observer) (f : Flight)
    → IsAgain rows moment o f
    → list_any (λ n. is_end_of n (name_of o)) (again_of rows moment o) ≡ false
again_stays rows moment o f it =
    subst
    (λ x. list_any (λ n. is_end_of n (name_of o)) (flight_again rows moment o x).notes ≡ false)
    (sym it.flies)
    (by (nat_le (deadline f.formed f.again) moment) (nat_le max_again (length f.again)) it.over
    it.again)
  where
    by : (b c : Bool)
        → b ≡ true
        → c ≡ false
        → list_any (λ n. is_end_of n (name_of o)) (notification_again (due_by b c) rows o f).notes
        ≡ false
    by false c over again = absurd (false≢true over)
    by true true over again = absurd (false≢true (sym again))
    by true false over again =
        again_ends_none (confirmable_sent (row_at f.formed.place rows) o.peer f.mid) o.peer f.mid
        (name_of o)

-- another observer's part does not name it
other_stays : (rows : List Row) (moment : ℕ) (o x : Observer)
    → is_same_request (name_of x) (name_of o) ≡ false
    → list_any (λ n. is_end_of n (name_of o)) (again_of rows moment x) ≡ false
other_stays rows moment o x apart = by (flight x (events rows))
  where
    again : (b c : Bool) (f : Flight)
        → list_any (λ n. is_end_of n (name_of o)) (notification_again (due_by b c) rows x f).notes
        ≡ false
    again false c f = refl
    again true true f = rw apart refl
    again true false f =
        again_ends_none (confirmable_sent (row_at f.formed.place rows) x.peer f.mid) x.peer f.mid
        (name_of o)

    by : (f : Option Flight)
        → list_any (λ n. is_end_of n (name_of o)) (flight_again rows moment x f).notes ≡ false
    by None = refl
    by (Some f) =
        again (nat_le (deadline f.formed f.again) moment) (nat_le max_again (length f.again)) f

-- so it stands on
pub again_stands : (rows : List Row) (moment : ℕ) (o : Observer) (f : Flight)
    → IsAgain rows moment o f
    → Only o (observers (events rows))
    → list_any (λ n. is_end_of n (name_of o)) (notifications_again rows moment).notes ≡ false
unfolding notifications_again
again_stands rows moment o f it only = each (observers (events rows)) only
  where
    one : (x : Observer)
        → (is_same_request (name_of x) (name_of o) ≡ true → x ≡ o)
        → list_any (λ n. is_end_of n (name_of o)) (again_of rows moment x) ≡ false
    one x same = by (is_same_request (name_of x) (name_of o)) refl
      where
        by : (b : Bool)
            → is_same_request (name_of x) (name_of o) ≡ b
            → list_any (λ n. is_end_of n (name_of o)) (again_of rows moment x) ≡ false
        by true e =
            subst (λ y. list_any (λ n. is_end_of n (name_of o)) (again_of rows moment y) ≡ false)
            (sym (same e)) (again_stays rows moment o f it)
        by false e = other_stays rows moment o x e

    each : (xs : List Observer)
        → Only o xs
        → list_any (λ n. is_end_of n (name_of o))
        (each_of (λ x. flight_again rows moment x (flight x (events rows))) xs).notes
        ≡ false
    each [] all = refl
    each (x ∷ xs) all =
        list_any-append (λ n. is_end_of n (name_of o)) (again_of rows moment x)
        (each_of (λ y. flight_again rows moment y (flight y (events rows))) xs).notes
        ∙ rw (one x all.0, each xs all.1) refl
