-- For the crate above: marks that are handed on one slot after the other, and what a table stands
-- for after a transition. And whom a table waits for, by events.
use Rattle.std.proofs.Common.{
  ◌≡◌,
  ℕ,
  ◌<◌,
  ◌==◌,
  Bool,
  true,
  false,
  ◌&&◌,
  ◌||◌,
  List,
  [],
  ◌∷◌,
  map,
  Option,
  Some,
  None,
  is_some,
  option_map,
  refl,
  sym,
  ap,
  ap₂,
  ◌∙◌,
}
use Rattle.std.specs.List.{AllByRecursion, list_any}
use Rattle.std.proofs.lemmas.Bool.{false≢true, ltb-true}
use Rattle.rd_base.specs.declared.peers.Peer.{Peer}
use Rattle.rd_base.specs.declared.queries.Query.{Query}
use Rattle.event_model.specs.declared.notes.Observer.{Observer}
use Rattle.event_model.specs.Same.{is_same_peer}
use Rattle.event_model.specs.Events.{Event, last_event}
use Rattle.event_model.specs.Observers.{name_of, observers}
use Rattle.event_model.specs.Flights.{
  OctetsSent,
  Flight,
  flight,
  notification_sent,
  waiting_notification,
  is_waited_for,
}
use Rattle.event_model.specs.Due.{
  Transition,
  Watching,
  is_change_of,
  is_looking_for,
  watching,
  observers_standing,
}
use Rattle.event_model.proofs.DueLaws.{IsLookedAt, due_more}
use Rattle.observers.specs.Standing.{Standing, is_awaited, marked}
use Rattle.observers.specs.ObserverEvents.{
  shown,
  AwaitsOne,
  EachAwaitsOne,
  ObserversStandFor,
  IsExactMark,
  came_before,
  was_looked_at_before,
}
use Rattle.observers.proofs.EventLaws.{parts}
use Rattle.observers.proofs.StandLaws.{StartsNone, awaits_kept}

-- ---- marks of slots, handed on

-- an observer after the marks of slots: it is due where its query's slot is marked
abbrev pub handed : (ℕ → Bool) → Standing → Standing
handed marks w = record w { due = w.due || marks w.slot }

with_due : Standing → Bool → Standing
with_due w due = record w { due = due }

or_false : (a : Bool) → (a || false) ≡ a
or_false true = refl
or_false false = refl

or_more : (a b c : Bool) → ((a || b) || c) ≡ (a || (b || c))
or_more true b c = refl
or_more false b c = refl

or_turned : (a b : Bool) → (a || b) ≡ (b || a)
or_turned true true = refl
or_turned true false = refl
or_turned false true = refl
or_turned false false = refl

-- no mark
pub handed-none : (ws : List Standing) → map (handed (λ slot. false)) ws ≡ ws
unfolding with_due
handed-none [] = refl
handed-none (w ∷ ws) = ap₂ (λ x xs. x ∷ xs) (ap (with_due w) (or_false w.due)) (handed-none ws)

-- the mark of one slot more
pub handed-more : (marks : ℕ → Bool) (slot : ℕ) (ws : List Standing)
    → map (marked slot) (map (handed marks) ws) ≡ map (handed (λ p. marks p || p == slot)) ws
unfolding with_due
handed-more marks slot [] = refl
handed-more marks slot (w ∷ ws) =
    ap₂ (λ x xs. x ∷ xs) (ap (with_due w) (or_more w.due (marks w.slot) (w.slot == slot)))
    (handed-more marks slot ws)

-- ---- a transition

-- an observer that stands, after a transition
abbrev pub changed_by : Transition → Watching → Watching
changed_by t x = parts x.observer (is_change_of x.observer.query t || x.due) x.last_body x.waits

standing-changed : (octets : OctetsSent) (events : List Event) (t : Transition)
    (seen : List Transition) (xs : List Observer)
    → AllByRecursion (λ o. IsLookedAt o events t.place) xs
    → map (watching octets events (t ∷ seen)) xs
    ≡ map (changed_by t) (map (watching octets events seen) xs)
standing-changed octets events t seen [] looked = refl
standing-changed octets events t seen (o ∷ xs) looked =
    ap₂ (λ x rest. x ∷ rest) (ap (λ d. record (watching octets events seen o) { due = d })
    (due_more o events t seen looked.0)) (standing-changed octets events t seen xs looked.1)

-- where the marks are exactly the changes of the queries in the slots, the table stands for one
-- transition more
pub marks-StandsFor : (queries : ℕ → Query) (octets : OctetsSent) (events : List Event)
    (t : Transition) (seen : List Transition) (marks : ℕ → Bool) (ws : List Standing)
    → AllByRecursion (λ w. marks w.slot ≡ is_change_of (queries w.slot) t) ws
    → AllByRecursion (λ o. IsLookedAt o events t.place) (observers events)
    → ObserversStandFor queries octets events seen ws
    → ObserversStandFor queries octets events (t ∷ seen) (map (handed marks) ws)
unfolding observers_standing
marks-StandsFor queries octets events t seen marks ws exact looked h = record {
  standing =
      standing-changed octets events t seen (observers events) looked
      ∙ (ap (map (changed_by t)) h.standing ∙ each ws exact);
  awaited =
      awaits_kept (handed marks) (record { peer = λ w. refl; flight = λ w f. f }) ws h.awaited;
}
  where
    each : (xs : List Standing)
        → AllByRecursion (λ w. marks w.slot ≡ is_change_of (queries w.slot) t) xs
        → map (changed_by t) (map (shown queries) xs) ≡ map (shown queries) (map (handed marks) xs)
    each [] e = refl
    each (w ∷ xs) e =
        ap₂ (λ x rest. x ∷ rest)
        (ap (λ d. record (shown queries w) { due = d })
        (ap (λ b. b || w.due) (sym e.0) ∙ or_turned (marks w.slot) w.due)) (each xs e.1)

was_looked_at : (place : ℕ) (events : List Event) (o : Observer)
    → was_looked_at_before place events o ≡ true
    → IsLookedAt o events place
was_looked_at place events o was = by (last_event (is_looking_for (name_of o)) events) refl
  where
    by : (found : Option Event)
        → last_event (is_looking_for (name_of o)) events ≡ found
        → IsLookedAt o events place
    by None e = absurd (false≢true (sym (ap (came_before place) e) ∙ was))
    by (Some event) e = record {
      event = event;
      last = e;
      before = ltb-true event.place place (sym (ap (came_before place) e) ∙ was);
    }

-- a mark of one slot that is exact for a transition: the table stands for it too
pub mark_stands : (queries : ℕ → Query) (octets : OctetsSent) (events : List Event)
    (t : Transition) (seen : List Transition) (slot : ℕ) (ws : List Standing)
    → IsExactMark queries t slot ws
    → AllByRecursion (λ o. was_looked_at_before t.place events o ≡ true) (observers events)
    → ObserversStandFor queries octets events seen ws
    → ObserversStandFor queries octets events (t ∷ seen) (map (marked slot) ws)
mark_stands queries octets events t seen slot ws exact looked h =
    marks-StandsFor queries octets events t seen (λ p. p == slot) ws exact
    (each (observers events) looked) h
  where
    each : (xs : List Observer)
        → AllByRecursion (λ o. was_looked_at_before t.place events o ≡ true) xs
        → AllByRecursion (λ o. IsLookedAt o events t.place) xs
    each [] l = tt
    each (o ∷ xs) l = (was_looked_at t.place events o l.0, each xs l.1)

-- ---- who is waited for

is_some_map : {A B : Type 0} (f : A → B) (o : Option A) → is_some (option_map f o) ≡ is_some o
is_some_map f None = refl
is_some_map f (Some x) = refl

-- a notification is in flight to one of the observers of a peer by the table exactly where it is by
-- the events
pub awaited-StandsFor : (queries : ℕ → Query) (octets : OctetsSent) (events : List Event)
    (seen : List Transition) (ws : List Standing) (peer : Peer)
    → ObserversStandFor queries octets events seen ws
    → is_awaited peer ws ≡ is_waited_for peer events
unfolding observers_standing is_waited_for waiting_notification
awaited-StandsFor queries octets events seen ws peer h =
    sym (in_table ws) ∙ (ap (list_any test) (sym h.standing) ∙ by_events (observers events))
  where
    test : Watching → Bool
    test x = is_same_peer x.observer.peer peer && is_some x.waits

    in_table : (xs : List Standing)
        → list_any test (map (shown queries) xs) ≡ is_awaited peer xs
    in_table [] = refl
    in_table (w ∷ xs) = ap (λ b. (is_same_peer w.peer peer && is_some w.flight) || b) (in_table xs)

    by_events : (xs : List Observer)
        → list_any test (map (watching octets events seen) xs)
        ≡ list_any (λ o. is_same_peer o.peer peer && is_some (flight o events)) xs
    by_events [] = refl
    by_events (o ∷ xs) =
        ap₂ (λ a b. (is_same_peer o.peer peer && a) || b)
        (is_some_map (notification_sent octets o.peer) (flight o events)) (by_events xs)
