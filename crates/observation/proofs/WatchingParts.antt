-- What the watched queries and their observers stand for, by its parts: with other octets of rows,
-- with notes about other things, and after changes of the registrations.
use Rattle.std.proofs.Common.{
  ◌≡◌,
  ℕ,
  nat_eq,
  Bool,
  true,
  false,
  ◌||◌,
  cond,
  List,
  [],
  ◌∷◌,
  map,
  Option,
  Some,
  None,
  option_map,
  refl,
  sym,
  ap,
  ap₂,
  subst,
  ◌∙◌,
}
use Rattle.std.specs.List.{AllByRecursion, list_any}
use Rattle.std.specs.Map.{lookup}
use Rattle.std.proofs.lemmas.Map.Made.{lookup-map_values}
use Rattle.rd_base.specs.declared.peers.Peer.{Peer}
use Rattle.rd_base.specs.declared.queries.Query.{Query}
use Rattle.rd_base.proofs.lemmas.Each.{each_weaker, each_one, each_map}
use Rattle.history_model.specs.declared.entries.Entry.{Entry}
use Rattle.history_model.specs.Listing.{listing}
use Rattle.event_model.specs.declared.notes.Note.{Note}
use Rattle.event_model.specs.declared.notes.Observer.{Observer}
use Rattle.event_model.specs.Events.{Event, noted}
use Rattle.event_model.specs.Observers.{observers}
use Rattle.event_model.specs.Flights.{OctetsSent, notification_sent, waiting_notification}
use Rattle.event_model.specs.Due.{
  Transition,
  Watching as Shown,
  is_due,
  watching,
  observers_standing,
}
use Rattle.event_model.proofs.AsideTables.{about_observers, observers_standing-noted}
use Rattle.event_model.proofs.FlightLaws.{waiting_notification-octets}
use Rattle.journal_model.specs.Ticks.{is_confirmable_with}
use Rattle.watch_table.specs.WatchedQueries.{
  Watched,
  Table,
  query_at,
  is_marked,
  is_marked_at,
  unmarked,
  all_unmarked,
}
use Rattle.watch_table.specs.ObserverCounts.{WatchesStandFor}
use Rattle.watch_table.proofs.EntryLaws.{each_found}
use Rattle.watch_table.proofs.TouchedLaws.{Keeps, kept-StandsFor, unmarked-StandsFor}
use Rattle.observers.specs.Standing.{Standing}
use Rattle.observers.specs.ObserverEvents.{shown, ObserversStandFor}
use Rattle.observers.proofs.StandLaws.{observers-StandsFor, awaits_kept}
use Rattle.observation.specs.Marks.{touched_where, all_touched_where, handed}
use Rattle.observation.specs.Watching.{Watching, IsInSlot, IsUnmarked, IsConfirmable}

-- ---- by parts

-- after marks were handed on
abbrev pub handed_on : Table → List Standing → Watching
handed_on t ws = record { watches = all_unmarked t; observers = map (handed t) ws }

-- a body that is set is the listing of its query
abbrev pub IsListing : List Entry → ℕ → ℕ × Watched → Type 0
IsListing history moment e =
    (body : List ℕ) → e.1.body ≡ Some body → body ≡ listing e.1.query history moment

-- by the octets that rows sent they stand for events and transitions, and for a history at a moment
pub record StandsOver (octets : OctetsSent) (past : List Event) (seen : List Transition)
    (history : List Entry) (moment : ℕ) (w : Watching) : Type 0 where
  pub queries : ℕ → Query
  pub in_slots : AllByRecursion (IsInSlot w.watches queries) w.observers
  pub watches : WatchesStandFor (observers past) w.watches
  pub observers : ObserversStandFor queries octets past seen w.observers
  pub confirmable : AllByRecursion IsConfirmable w.observers
  pub unmarked : AllByRecursion IsUnmarked w.watches
  pub bodies : AllByRecursion (IsListing history moment) w.watches

-- they stand for all after which the same observers are shown
pub shown_same : (octets others : OctetsSent) (past later : List Event)
    (seen more : List Transition) (history : List Entry) (moment : ℕ) (w : Watching)
    → observers_standing others later more ≡ observers_standing octets past seen
    → StandsOver octets past seen history moment w → StandsOver others later more history moment w
shown_same octets others past later seen more history moment w same h = record {
  queries = h.queries;
  in_slots = h.in_slots;
  watches =
      subst (λ standing. WatchesStandFor standing w.watches)
      (observers-StandsFor h.queries octets past seen w.observers h.observers
      ∙ sym (observers-StandsFor h.queries others later more w.observers now)) h.watches;
  observers = now;
  confirmable = h.confirmable;
  unmarked = h.unmarked;
  bodies = h.bodies;
}
  where
    now : ObserversStandFor h.queries others later more w.observers
    now = record { standing = same ∙ h.observers.standing; awaited = h.observers.awaited }

-- ---- other octets

-- each confirmable message that rows sent is found as before
abbrev pub KeepsConfirmable : OctetsSent → OctetsSent → Type 0
KeepsConfirmable octets others =
    (place : ℕ) (peer : Peer) (mid : ℕ)
    → is_confirmable_with mid (octets place peer mid) ≡ true
    → others place peer mid ≡ octets place peer mid

pub octets_kept : (octets others : OctetsSent) (past : List Event) (seen : List Transition)
    (history : List Entry) (moment : ℕ) (w : Watching)
    → KeepsConfirmable octets others
    → StandsOver octets past seen history moment w → StandsOver others past seen history moment w
unfolding observers_standing waiting_notification
octets_kept octets others past seen history moment w keeps h =
    shown_same octets others past past seen seen history moment w
    (each (observers past) w.observers h.confirmable h.observers.standing) h
  where
    one : (o : Observer) (x : Standing)
        → IsConfirmable x
        → watching octets past seen o ≡ shown h.queries x
        → watching others past seen o ≡ watching octets past seen o
    one o x c here =
        let waits = ap (λ (y : Shown). y.waits) here in
        ap (λ waits. record (watching octets past seen o) { waits = waits })
        (waiting_notification-octets others octets o past
        (λ f flies. keeps f.formed.place o.peer f.mid (c (notification_sent octets o.peer f)
        (sym waits ∙ ap (option_map (notification_sent octets o.peer)) flies))))

    each : (os : List Observer) (xs : List Standing)
        → AllByRecursion IsConfirmable xs
        → map (watching octets past seen) os ≡ map (shown h.queries) xs
        → map (watching others past seen) os ≡ map (watching octets past seen) os
    each [] xs c same = refl
    each (o ∷ os) [] c same = absurd cc
    each (o ∷ os) (x ∷ xs) c same =
        let here : watching octets past seen o ≡ shown h.queries x = cc in
        let rest : map (watching octets past seen) os ≡ map (shown h.queries) xs = cc in
        ap₂ (λ (y : Shown) (ys : List Shown). y ∷ ys) (one o x c.0 here) (each os xs c.1 rest)

-- ---- notes about other things

pub noted_aside : (octets : OctetsSent) (past : List Event) (seen : List Transition)
    (history : List Entry) (moment : ℕ) (w : Watching) (place at word : ℕ) (notes : List Note)
    → list_any about_observers notes ≡ false
    → StandsOver octets past seen history moment w
    → StandsOver octets (noted place at word notes past) seen history moment w
noted_aside octets past seen history moment w place at word notes none h =
    shown_same octets octets past (noted place at word notes past) seen seen history moment w
    (observers_standing-noted octets seen place at word notes past none) h

-- ---- changes of the registrations

-- marks and bodies leave queries and observers
pub touched_where-Keeps : (test : Query → Bool) → Keeps (touched_where test)
touched_where-Keeps test = record {
  query = λ w. query w (test w.query);
  observers = λ w. counted w (test w.query);
}
  where
    query : (w : Watched) (b : Bool)
        → (cond b (record w { marked = true; body = None }) w).query ≡ w.query
    query w true = refl
    query w false = refl

    counted : (w : Watched) (b : Bool)
        → (cond b (record w { marked = true; body = None }) w).observers ≡ w.observers
    counted w true = refl
    counted w false = refl

-- so they leave what is watched in each slot
query_kept : (change : Watched → Watched)
    → Keeps change
    → (slot : ℕ) (t : Table)
    → query_at slot (map (λ (e : ℕ × Watched). (e.0, change e.1)) t) ≡ query_at slot t
query_kept change keeps slot t =
    ap (option_map (λ (w : Watched). w.query)) (lookup-map_values change (nat_eq slot) t)
    ∙ by (lookup (nat_eq slot) t)
  where
    by : (o : Option Watched)
        → option_map (λ (w : Watched). w.query) (option_map change o)
        ≡ option_map (λ (w : Watched). w.query) o
    by None = refl
    by (Some w) = ap (λ q. Some q) (keeps.query w)

pub in_slots_kept : (change : Watched → Watched)
    → Keeps change
    → (queries : ℕ → Query) (t : Table) (ws : List Standing)
    → AllByRecursion (IsInSlot t queries) ws
    → AllByRecursion (IsInSlot (map (λ (e : ℕ × Watched). (e.0, change e.1)) t) queries) ws
in_slots_kept change keeps queries t ws in_slots =
    each_weaker (IsInSlot t queries)
    (IsInSlot (map (λ (e : ℕ × Watched). (e.0, change e.1)) t) queries)
    (λ x p. query_kept change keeps x.slot t ∙ p) ws in_slots

pub unmarked-Keeps : Keeps unmarked
unmarked-Keeps = record { query = λ w. refl; observers = λ w. refl }

-- the query of an observer is marked exactly where it passes
marked_where : (test : Query → Bool) (queries : ℕ → Query) (t : Table) (x : Standing)
    → AllByRecursion IsUnmarked t
    → IsInSlot t queries x
    → is_marked_at x.slot (all_touched_where test t) ≡ test (queries x.slot)
marked_where test queries t x none in_slots =
    ap is_marked (lookup-map_values (touched_where test) (nat_eq x.slot) t)
    ∙ by (lookup (nat_eq x.slot) t) refl in_slots
  where
    one : (w : Watched) (b : Bool)
        → test w.query ≡ b
        → w.marked ≡ false
        → (cond b (record w { marked = true; body = None }) w).marked ≡ b
    one w true e m = refl
    one w false e m = m

    by : (o : Option Watched)
        → lookup (nat_eq x.slot) t ≡ o
        → option_map (λ (w : Watched). w.query) o ≡ Some (queries x.slot)
        → is_marked (option_map (touched_where test) o) ≡ test (queries x.slot)
    by None e p = absurd cc
    by (Some w) e p =
        let same : w.query ≡ queries x.slot = cc in
        one w (test w.query) refl
        (each_found (λ (y : Watched). y.marked ≡ false) (nat_eq x.slot) t w none e)
        ∙ ap test same

-- Changes of the registrations that give other lines to the queries that pass a test, and to no
-- others, make their observers due: the marks are handed on, and bodies dropped.
pub touched_stands : (test : Query → Bool) (octets : OctetsSent) (past : List Event)
    (seen more : List Transition) (history later : List Entry) (moment now : ℕ) (w : Watching)
    → AllByRecursion (λ o. is_due o past more ≡ (test o.query || is_due o past seen))
    (observers past)
    → ((query : Query)
    → test query ≡ false
    → listing query later now ≡ listing query history moment)
    → StandsOver octets past seen history moment w
    → StandsOver octets past more later now
    (handed_on (all_touched_where test w.watches) w.observers)
unfolding observers_standing
touched_stands test octets past seen more history later moment now w due same h = record {
  queries = h.queries;
  in_slots = each_map (IsInSlot (all_unmarked touched) h.queries) (handed touched) w.observers
      (in_slots_kept unmarked unmarked-Keeps h.queries touched w.observers
      (in_slots_kept (touched_where test) (touched_where-Keeps test) h.queries w.watches
      w.observers h.in_slots));
  watches =
      unmarked-StandsFor (observers past) touched
      (kept-StandsFor (touched_where test) (touched_where-Keeps test) (observers past) w.watches
      h.watches);
  observers = record {
    standing = each (observers past) w.observers due h.in_slots h.observers.standing;
    awaited =
        awaits_kept (handed touched) (record { peer = λ x. refl; flight = λ x flies. flies })
        w.observers h.observers.awaited;
  };
  confirmable = each_map IsConfirmable (handed touched) w.observers h.confirmable;
  unmarked =
      each_map IsUnmarked (λ (e : ℕ × Watched). (e.0, unmarked e.1)) touched
      (each_one (λ (e : ℕ × Watched). false ≡ false) (λ e. refl) touched);
  bodies = each_map (IsListing later now) (λ (e : ℕ × Watched). (e.0, unmarked e.1)) touched
      (each_map (λ (e : ℕ × Watched). IsListing later now (e.0, unmarked e.1))
      (λ (e : ℕ × Watched). (e.0, touched_where test e.1)) w.watches
      (each_weaker (IsListing history moment)
      (λ (e : ℕ × Watched). IsListing later now (e.0, unmarked (touched_where test e.1)))
      (λ e fits. body e (test e.1.query) refl fits) w.watches h.bodies));
}
  where
    touched : Table
    touched = all_touched_where test w.watches

    or_turned : (a b : Bool) → (a || b) ≡ (b || a)
    or_turned true true = refl
    or_turned true false = refl
    or_turned false true = refl
    or_turned false false = refl

    one : (o : Observer) (x : Standing)
        → is_due o past more ≡ (test o.query || is_due o past seen)
        → IsInSlot w.watches h.queries x
        → watching octets past seen o ≡ shown h.queries x
        → watching octets past more o ≡ shown h.queries (handed touched x)
    one o x d in_slots here =
        let query = ap (λ (y : Shown). y.observer.query) here in
        let before = ap (λ (y : Shown). y.due) here in
        ap (λ (b : Bool). record (watching octets past seen o) { due = b })
        (d
        ∙ (ap₂ (λ q b. test q || b) query before
        ∙ (or_turned (test (h.queries x.slot)) x.due
        ∙ ap (λ b. x.due || b)
        (sym (marked_where test h.queries w.watches x h.unmarked in_slots)))))
        ∙ ap (λ (y : Shown). record y { due = x.due || is_marked_at x.slot touched }) here

    each : (os : List Observer) (xs : List Standing)
        → AllByRecursion (λ o. is_due o past more ≡ (test o.query || is_due o past seen)) os
        → AllByRecursion (IsInSlot w.watches h.queries) xs
        → map (watching octets past seen) os ≡ map (shown h.queries) xs
        → map (watching octets past more) os ≡ map (shown h.queries) (map (handed touched) xs)
    each [] [] d p e = refl
    each [] (x ∷ xs) d p e = absurd cc
    each (o ∷ os) [] d p e = absurd cc
    each (o ∷ os) (x ∷ xs) d p e =
        let here : watching octets past seen o ≡ shown h.queries x = cc in
        let rest : map (watching octets past seen) os ≡ map (shown h.queries) xs = cc in
        ap₂ (λ (y : Shown) (ys : List Shown). y ∷ ys) (one o x d.0 p.0 here)
        (each os xs d.1 p.1 rest)

    body : (e : ℕ × Watched) (b : Bool)
        → test e.1.query ≡ b
        → IsListing history moment e
        → IsListing later now
        (e.0, unmarked (cond b (record e.1 { marked = true; body = None }) e.1))
    body e true passes fits = λ text set. absurd cc
    body e false fails fits = λ text set. fits text set ∙ sym (same e.1.query fails)
