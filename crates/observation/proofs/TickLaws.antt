-- What a tick asks of the watched queries and their observers: the query of an observer and the
-- body that is kept for it, and which observer comes next.
use Rattle.std.proofs.Common.{
  ◌≡◌,
  ℕ,
  ◌+◌,
  ◌<◌,
  zero,
  suc,
  nat_eq,
  Bool,
  not,
  ◌&&◌,
  cond,
  List,
  [],
  ◌∷◌,
  length,
  map,
  drop,
  slice_get,
  Option,
  Some,
  None,
  IsSome,
  IfSome,
  option_map,
  option_and_then,
  refl,
  sym,
  ap,
  ap₂,
  subst,
  ◌∙◌,
  arith,
}
use Rattle.std.specs.List.{AllByRecursion}
use Rattle.rd_base.specs.declared.queries.Query.{Query}
use Rattle.rd_base.proofs.lemmas.Each.{each_weaker}
use Rattle.history_model.specs.Listing.{listing}
use Rattle.event_model.specs.declared.notes.Observer.{Observer}
use Rattle.event_model.specs.Observers.{name_of, observers, last_body_formed}
use Rattle.event_model.specs.Flights.{flight, is_waited_for, waiting_notification}
use Rattle.event_model.specs.Due.{Watching as Shown, is_due, watching, observers_standing}
use Rattle.journal_model.specs.declared.rows.Row.{Row}
use Rattle.journal_model.specs.Journal.{events, entries, now, transitions}
use Rattle.journal_model.specs.Ticks.{octets_sent}
use Rattle.watch_table.specs.WatchedQueries.{
  Watched,
  Table,
  watched_at,
  query_at,
  body_at,
  body_set,
  with_body,
}
use Rattle.watch_table.proofs.EntryLaws.{each_found, each_set}
use Rattle.watch_table.proofs.WatchedAtLaws.{query_at-body}
use Rattle.watch_table.proofs.TouchedLaws.{with_body-StandsFor}
use Rattle.observers.specs.Standing.{Standing, is_ready, first_from, next_ready}
use Rattle.observers.specs.ObserverEvents.{observer_of, shown}
use Rattle.observers.proofs.StandLaws.{
  observers-StandsFor,
  length-StandsFor as length_shown,
  same_at as shown_at,
}
use Rattle.observers.proofs.MarkLaws.{awaited-StandsFor}
use Rattle.observation.specs.Notifications.{first_observer, next_notified}
use Rattle.observation.specs.Watching.{
  Watching,
  IsInSlot,
  HasListing,
  IsUnmarked,
  AreWatched,
  WatchingStandsFor,
}

-- ---- the observer with an index

got_map : {X Y : Type 0} (f : X → Y) (xs : List X) (i : ℕ)
    → slice_get (map f xs) i ≡ option_map f (slice_get xs i)
got_map f [] i = refl
got_map f (x ∷ xs) zero = refl
got_map f (x ∷ xs) (suc i) = got_map f xs i

pub each_at : {X : Type 0} (P : X → Type 0) (xs : List X) (i : ℕ) (x : X)
    → AllByRecursion P xs
    → slice_get xs i ≡ Some x
    → P x
each_at P [] i x h is = absurd cc
each_at P (y ∷ ys) zero x h is = let same : y ≡ x = cc in subst P same h.0
each_at P (y ∷ ys) (suc i) x h is = each_at P ys i x h.1 is

pub got_within : {X : Type 0} (xs : List X) (i : ℕ) (x : X)
    → slice_get xs i ≡ Some x
    → i < length xs
got_within [] i x is = absurd cc
got_within (y ∷ ys) zero x is = omega arith
got_within (y ∷ ys) (suc i) x is = let rest = got_within ys i x is in omega (arith, rest)

pub got_inside : {X : Type 0} (xs : List X) (i : ℕ)
    → i < length xs
    → (x : X) × (slice_get xs i ≡ Some x)
got_inside [] i inside = absurd (omega (arith, inside))
got_inside (y ∷ ys) zero inside = (y, refl)
got_inside (y ∷ ys) (suc i) inside = got_inside ys i (omega (arith, inside))

-- by the events and by the table
same_at : (rows : List Row) (w : Watching) (i : ℕ) (o : Observer) (x : Standing)
    → (h : WatchingStandsFor rows w)
    → slice_get (observers (events rows)) i ≡ Some o
    → slice_get w.observers i ≡ Some x
    → o ≡ observer_of h.queries x
same_at rows w i o x h at there =
    let whole =
    observers-StandsFor h.queries (octets_sent rows) (events rows) (transitions rows)
    w.observers h.observers in
    let found : Some o ≡ Some (observer_of h.queries x) =
    sym at
    ∙ (ap (λ os. slice_get os i) whole ∙ (got_map (observer_of h.queries) w.observers i ∙ ap
    (option_map (observer_of h.queries)) there)) in
    cc

-- its query is watched in its slot
pub watched_here : (t : Table) (ws : List Standing) (i : ℕ) (x : Standing)
    → AreWatched t ws
    → slice_get ws i ≡ Some x
    → IsSome (watched_at x.slot t)
watched_here t ws i x h there =
    by (watched_at x.slot t) (each_at (IsInSlot t h.queries) ws i x h.by.in_slots there)
  where
    by : (o : Option Watched)
        → option_map (λ (v : Watched). v.query) o ≡ Some (h.queries x.slot)
        → IsSome o
    by None e = absurd cc
    by (Some v) e = refl

pub query-StandsFor : (rows : List Row) (w : Watching) (i : ℕ) (o : Observer) (x : Standing)
    (query : Query)
    → WatchingStandsFor rows w
    → slice_get (observers (events rows)) i ≡ Some o
    → slice_get w.observers i ≡ Some x
    → Some query ≡ query_at x.slot w.watches → query ≡ o.query
query-StandsFor rows w i o x query h at there is =
    let own : Some query ≡ Some (h.queries x.slot) =
    is ∙ each_at (IsInSlot w.watches h.queries) w.observers i x h.in_slots there in
    let same : query ≡ h.queries x.slot = cc in
    same ∙ sym (ap (λ (y : Observer). y.query) (same_at rows w i o x h at there))

-- ---- bodies

-- what is known of a value that is found, by its view
pub if_some : {X V : Type 0} (view : X → V) (P : V → Type 0) (r : Option X) (o : Option V)
    → option_map view r ≡ o
    → ((v : V) → o ≡ Some v → P v)
    → IfSome r (λ x. P (view x))
if_some view P None o is h = tt
if_some view P (Some x) o is h = h (view x) (sym is)

-- a body that is kept is the listing now
pub body-StandsFor : (rows : List Row) (w : Watching) (i : ℕ) (o : Observer) (x : Standing)
    (body : List ℕ)
    → WatchingStandsFor rows w
    → slice_get (observers (events rows)) i ≡ Some o
    → slice_get w.observers i ≡ Some x
    → body_at x.slot w.watches ≡ Some body
    → body ≡ listing o.query (entries rows) (now rows)
body-StandsFor rows w i o x body h at there is =
    by (watched_at x.slot w.watches) refl is
    (each_at (IsInSlot w.watches h.queries) w.observers i x h.in_slots there)
    ∙ ap (λ q. listing q (entries rows) (now rows))
    (sym (ap (λ (y : Observer). y.query) (same_at rows w i o x h at there)))
  where
    by : (v : Option Watched)
        → watched_at x.slot w.watches ≡ v
        → option_and_then (λ (y : Watched). y.body) v ≡ Some body
        → option_map (λ (y : Watched). y.query) v ≡ Some (h.queries x.slot)
        → body ≡ listing (h.queries x.slot) (entries rows) (now rows)
    by None e g p = absurd cc
    by (Some v) e g p =
        let query : v.query ≡ h.queries x.slot = cc in
        each_found (λ (y : Watched).
        (text : List ℕ)
        → y.body ≡ Some text
        → text ≡ listing y.query (entries rows) (now rows)) (nat_eq x.slot) w.watches v
        h.bodies e body g
        ∙ ap (λ q. listing q (entries rows) (now rows)) query

-- a body that is the listing now is kept
pub kept_body-StandsFor : (rows : List Row) (w : Watching) (i : ℕ) (o : Observer) (x : Standing)
    (body : List ℕ)
    → body ≡ listing o.query (entries rows) (now rows)
    → slice_get (observers (events rows)) i ≡ Some o
    → slice_get w.observers i ≡ Some x
    → WatchingStandsFor rows w
    → WatchingStandsFor rows
    (record { watches = with_body x.slot body w.watches; observers = w.observers })
kept_body-StandsFor rows w i o x body is at there h = record {
  queries = h.queries;
  in_slots =
      each_weaker (IsInSlot w.watches h.queries)
      (IsInSlot (with_body x.slot body w.watches) h.queries)
      (λ y p. query_at-body x.slot y.slot body w.watches ∙ p) w.observers h.in_slots;
  watches = with_body-StandsFor x.slot body (observers (events rows)) w.watches h.watches;
  observers = h.observers;
  confirmable = h.confirmable;
  unmarked = each IsUnmarked (λ p v e fits. fits) h.unmarked;
  bodies =
      each (HasListing rows) (λ p v e fits text set. let same :
      body ≡ text =
      cc in sym same
      ∙ (is ∙ ap (λ q. listing q (entries rows) (now rows)) (query v e))) h.bodies;
}
  where
    query : (v : Watched) → watched_at x.slot w.watches ≡ Some v → o.query ≡ v.query
    query v e =
        let own : Some v.query ≡ Some (h.queries x.slot) =
        sym (ap (option_map (λ (y : Watched). y.query)) e)
        ∙ each_at (IsInSlot w.watches h.queries) w.observers i x h.in_slots there in
        let same : v.query ≡ h.queries x.slot = cc in
        ap (λ (y : Observer). y.query) (same_at rows w i o x h at there) ∙ sym same

    each : (P : ℕ × Watched → Type 0)
        → ((p : ℕ) (v : Watched)
        → watched_at x.slot w.watches ≡ Some v
        → P (p, v)
        → P (p, record v { body = Some body }))
        → AllByRecursion P w.watches
        → AllByRecursion P (with_body x.slot body w.watches)
    each P still fits = by (watched_at x.slot w.watches) refl
      where
        by : (v : Option Watched)
            → watched_at x.slot w.watches ≡ v
            → AllByRecursion P (body_set v x.slot body w.watches)
        by None e = fits
        by (Some v) e =
            each_set P (nat_eq x.slot) w.watches v (record v { body = Some body }) e
            (λ p holds. still p v e holds) fits

pub kept_body-AreWatched : (slot : ℕ) (body : List ℕ) (t : Table) (ws : List Standing)
    → AreWatched t ws
    → AreWatched (with_body slot body t) ws
kept_body-AreWatched slot body t ws h = record {
  queries = h.queries;
  by = record {
    in_slots =
        each_weaker (IsInSlot t h.queries) (IsInSlot (with_body slot body t) h.queries)
        (λ y p. query_at-body slot y.slot body t ∙ p) ws h.by.in_slots;
    watches = with_body-StandsFor slot body (map (observer_of h.queries) ws) t h.by.watches;
  };
  apart = h.apart;
}

-- ---- who comes next

-- The next observer that is due and free is the next by the events.
pub next-StandsFor : (rows : List Row) (w : Watching) (from : ℕ)
    → WatchingStandsFor rows w
    → next_ready from w.observers ≡ next_notified from (events rows) (transitions rows)
unfolding next_ready next_notified observers_standing
next-StandsFor rows w from h =
    sym (dropped from (observers (events rows)) w.observers h.observers.standing)
  where
    one : (o : Observer) (x : Standing)
        → watching (octets_sent rows) (events rows) (transitions rows) o ≡ shown h.queries x
        → (is_due o (events rows) (transitions rows) && not (is_waited_for o.peer (events rows)))
        ≡ is_ready w.observers x
    one o x here =
        ap₂ (λ a b. a && not b) (ap (λ (y : Shown). y.due) here)
        (ap (λ (y : Shown). is_waited_for y.observer.peer (events rows)) here
        ∙ sym (awaited-StandsFor h.queries (octets_sent rows) (events rows) (transitions rows)
        w.observers x.peer h.observers))

    walked : (i : ℕ) (os : List Observer) (xs : List Standing)
        → map (watching (octets_sent rows) (events rows) (transitions rows)) os
        ≡ map (shown h.queries) xs
        → first_observer (λ o.
        is_due o (events rows) (transitions rows)
        && not (is_waited_for o.peer (events rows))) i os
        ≡ first_from (is_ready w.observers) i xs
    walked i [] [] e = refl
    walked i [] (x ∷ xs) e = absurd cc
    walked i (o ∷ os) [] e = absurd cc
    walked i (o ∷ os) (x ∷ xs) e =
        let here :
        watching (octets_sent rows) (events rows) (transitions rows) o ≡ shown h.queries x =
        cc in
        let rest :
        map (watching (octets_sent rows) (events rows) (transitions rows)) os
        ≡ map (shown h.queries) xs =
        cc in
        ap₂ (λ (b : Bool) (r : Option ℕ). cond b (Some i) r) (one o x here)
        (walked (i + 1) os xs rest)

    dropped : (k : ℕ) (os : List Observer) (xs : List Standing)
        → map (watching (octets_sent rows) (events rows) (transitions rows)) os
        ≡ map (shown h.queries) xs
        → first_observer (λ o.
        is_due o (events rows) (transitions rows)
        && not (is_waited_for o.peer (events rows))) from (drop k os)
        ≡ first_from (is_ready w.observers) from (drop k xs)
    dropped zero os xs e = walked from os xs e
    dropped (suc k) [] [] e = refl
    dropped (suc k) [] (x ∷ xs) e = absurd cc
    dropped (suc k) (o ∷ os) [] e = absurd cc
    dropped (suc k) (o ∷ os) (x ∷ xs) e =
        let rest :
        map (watching (octets_sent rows) (events rows) (transitions rows)) os
        ≡ map (shown h.queries) xs =
        cc in
        dropped k os xs rest

-- ---- what is kept of an observer

-- it is the observer of the events, with what they say of it
pub record IsKeptAs (rows : List Row) (o : Observer) (x : Standing) : Type 0 where
  pub peer : o.peer ≡ x.peer
  pub token : o.token ≡ x.token
  pub key : o.key ≡ x.key
  pub szx : o.szx ≡ x.szx
  pub due : is_due o (events rows) (transitions rows) ≡ x.due
  pub last : last_body_formed (name_of o) (events rows) ≡ Some x.last
  pub waits : waiting_notification (octets_sent rows) (events rows) o ≡ x.flight

-- For the tick: each observer is kept at the index that it has by the events.
pub kept-StandsFor : (rows : List Row) (w : Watching) (i : ℕ) (o : Observer) (x : Standing)
    → WatchingStandsFor rows w
    → slice_get (observers (events rows)) i ≡ Some o
    → slice_get w.observers i ≡ Some x
    → IsKeptAs rows o x
kept-StandsFor rows w i o x h at there = record {
  peer = ap (λ (y : Shown). y.observer.peer) here;
  token = ap (λ (y : Shown). y.observer.token) here;
  key = ap (λ (y : Shown). y.observer.key) here;
  szx = ap (λ (y : Shown). y.observer.szx) here;
  due = ap (λ (y : Shown). y.due) here;
  last = ap (λ (y : Shown). y.last_body) here;
  waits = ap (λ (y : Shown). y.waits) here;
}
  where
    here : watching (octets_sent rows) (events rows) (transitions rows) o ≡ shown h.queries x
    here =
        shown_at h.queries (octets_sent rows) (events rows) (transitions rows) w.observers i o x
        h.observers at there

pub length-StandsFor : (rows : List Row) (w : Watching)
    → WatchingStandsFor rows w
    → length (observers (events rows)) ≡ length w.observers
length-StandsFor rows w h =
    length_shown h.queries (octets_sent rows) (events rows) (transitions rows) w.observers
    h.observers

-- ---- notifications that are sent again
