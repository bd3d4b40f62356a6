-- What the watched queries and their observers stand for, by its parts, after notes about
-- observers: one is gone, one is added, or their notifications change.
use Rattle.std.proofs.Common.{
  ◌≡◌,
  ℕ,
  ◌+◌,
  ◌-◌,
  nat_eq,
  nat_le,
  Bool,
  true,
  false,
  cond,
  List,
  [],
  ◌∷◌,
  ◌++◌,
  map,
  Option,
  Some,
  None,
  refl,
  sym,
  ap,
  ap₂,
  subst,
  ◌∙◌,
}
use Rattle.std.specs.List.{AllByRecursion}
use Rattle.std.specs.Map.{remove_entry, set_value}
use Rattle.rd_base.specs.declared.queries.Query.{Query}
use Rattle.rd_base.proofs.lemmas.Each.{each_push}
use Rattle.history_model.specs.declared.entries.Entry.{Entry}
use Rattle.event_model.specs.Events.{Event}
use Rattle.event_model.specs.Flights.{OctetsSent}
use Rattle.event_model.specs.Due.{Transition, Watching as Shown}
use Rattle.watch_table.specs.WatchedQueries.{
  Watched,
  Table,
  watched_at,
  watched_first,
  one_more,
  more_at,
  one_fewer,
  fewer_at,
  IsSlotFor,
}
use Rattle.watch_table.specs.ObserverCounts.{WatchesStandFor}
use Rattle.watch_table.proofs.EntryLaws.{each_removed, each_set}
use Rattle.observers.specs.Standing.{Standing}
use Rattle.observers.specs.ObserverEvents.{observer_of, shown, ObserversStandFor}
use Rattle.observers.proofs.StandLaws.{observers-StandsFor}
use Rattle.observation.specs.Watching.{Watching, IsInSlot, IsUnmarked, IsConfirmable, AreWatchedBy}
use Rattle.observation.proofs.WatchedLaws.{
  without_notification,
  same_observers,
  same_in_slots,
  in_slots_same,
  each_left,
  fewer-AreWatchedBy,
  with_query,
  more-AreWatchedBy,
}
use Rattle.observation.proofs.WatchingParts.{IsListing, StandsOver}

-- as often as they are observed
pub watched-StandsOver : (octets : OctetsSent) (past : List Event) (seen : List Transition)
    (history : List Entry) (moment : ℕ) (w : Watching)
    → (h : StandsOver octets past seen history moment w)
    → AreWatchedBy h.queries w.watches w.observers
watched-StandsOver octets past seen history moment w h = record {
  in_slots = h.in_slots;
  watches =
      subst (λ standing. WatchesStandFor standing w.watches)
      (observers-StandsFor h.queries octets past seen w.observers h.observers) h.watches;
}

-- ---- notifications

-- the same observers stand, each in its slot
pub notified_stands : (octets : OctetsSent) (past later : List Event) (seen : List Transition)
    (history : List Entry) (moment : ℕ) (w : Watching) (ws : List Standing)
    → map without_notification ws ≡ map without_notification w.observers
    → AllByRecursion IsConfirmable ws
    → (h : StandsOver octets past seen history moment w)
    → ObserversStandFor h.queries octets later seen ws
    → StandsOver octets later seen history moment (record { watches = w.watches; observers = ws })
notified_stands octets past later seen history moment w ws same confirmable h now = record {
  queries = h.queries;
  in_slots =
      in_slots_same w.watches h.queries ws
      (subst (AllByRecursion (IsInSlot w.watches h.queries)) (sym same)
      (same_in_slots w.watches h.queries w.observers h.in_slots));
  watches = subst (λ standing. WatchesStandFor standing w.watches)
      (observers-StandsFor h.queries octets past seen w.observers h.observers
      ∙ (same_observers h.queries w.observers
      ∙ (ap (map (observer_of h.queries)) (sym same)
      ∙ (sym (same_observers h.queries ws)
      ∙ sym (observers-StandsFor h.queries octets later seen ws now))))) h.watches;
  observers = now;
  confirmable = confirmable;
  unmarked = h.unmarked;
  bodies = h.bodies;
}

-- ---- one is gone

each_fewer : (P : ℕ × Watched → Type 0)
    → ((slot : ℕ) (v : Watched) → P (slot, v)
    → P (slot, record v { observers = v.observers - 1 }))
    → (slot : ℕ) (t : Table)
    → AllByRecursion P t
    → AllByRecursion P (one_fewer slot t)
unfolding one_fewer
each_fewer P still slot t h = by (watched_at slot t) refl
  where
    fewer : (v : Watched) (b : Bool)
        → watched_at slot t ≡ Some v
        → AllByRecursion P (cond b (remove_entry (nat_eq slot) t)
        (set_value (nat_eq slot) t (record v { observers = v.observers - 1 })))
    fewer v true is = each_removed P (nat_eq slot) t h
    fewer v false is =
        each_set P (nat_eq slot) t v (record v { observers = v.observers - 1 }) is
        (λ p fits. still p v fits) h

    by : (o : Option Watched) → watched_at slot t ≡ o → AllByRecursion P (fewer_at o slot t)
    by None is = h
    by (Some v) is = fewer v (nat_le v.observers 1) is

pub gone_stands : (octets : OctetsSent) (past later : List Event) (seen : List Transition)
    (history : List Entry) (moment : ℕ) (w : Watching) (front back : List Standing) (x : Standing)
    → w.observers ≡ front ++ x ∷ back
    → (h : StandsOver octets past seen history moment w)
    → ObserversStandFor h.queries octets later seen (front ++ back)
    → StandsOver octets later seen history moment
    (record { watches = one_fewer x.slot w.watches; observers = front ++ back })
gone_stands octets past later seen history moment w front back x whole h now = record {
  queries = h.queries;
  in_slots = left.in_slots;
  watches =
      subst (λ standing. WatchesStandFor standing (one_fewer x.slot w.watches))
      (sym (observers-StandsFor h.queries octets later seen (front ++ back) now)) left.watches;
  observers = now;
  confirmable =
      (each_left IsConfirmable front back x
      (subst (AllByRecursion IsConfirmable) whole h.confirmable)).0;
  unmarked = each_fewer IsUnmarked (λ p v fits. fits) x.slot w.watches h.unmarked;
  bodies = each_fewer (IsListing history moment) (λ p v fits. fits) x.slot w.watches h.bodies;
}
  where
    left : AreWatchedBy h.queries (one_fewer x.slot w.watches) (front ++ back)
    left =
        fewer-AreWatchedBy h.queries w.watches front back x
        (subst (AreWatchedBy h.queries w.watches) whole
        (watched-StandsOver octets past seen history moment w h))

-- ---- one is added

-- by other queries that are the same in their slots
pub other_queries : (queries others : ℕ → Query) (octets : OctetsSent) (past : List Event)
    (seen : List Transition) (ws : List Standing)
    → AllByRecursion (λ w. others w.slot ≡ queries w.slot) ws
    → ObserversStandFor queries octets past seen ws → ObserversStandFor others octets past seen ws
other_queries queries others octets past seen ws same h = record {
  standing = h.standing ∙ sym (each ws same);
  awaited = h.awaited;
}
  where
    each : (xs : List Standing)
        → AllByRecursion (λ w. others w.slot ≡ queries w.slot) xs
        → map (shown others) xs ≡ map (shown queries) xs
    each [] e = refl
    each (x ∷ xs) e =
        ap₂ (λ (y : Shown) (ys : List Shown). y ∷ ys) (ap (λ q.
        record (shown queries x)
        { observer = record (observer_of queries x) { query = q } }) e.0)
        (each xs e.1)

each_more : (P : ℕ × Watched → Type 0) (query : Query) (slot : ℕ)
    → P (slot, watched_first query)
    → ((p : ℕ) (v : Watched) (n : ℕ) → P (p, v) → P (p, record v { observers = n }))
    → (t : Table)
    → AllByRecursion P t
    → AllByRecursion P (one_more slot query t)
each_more P query slot first still t h = by (watched_at slot t) refl
  where
    by : (o : Option Watched) → watched_at slot t ≡ o
        → AllByRecursion P (more_at o slot query t)
    by None is = each_push P t (slot, watched_first query) h first
    by (Some v) is =
        each_set P (nat_eq slot) t v (record v { observers = v.observers + 1 }) is
        (λ p fits. still p v (v.observers + 1) fits) h

pub added_stands : (octets : OctetsSent) (past later : List Event) (seen : List Transition)
    (history : List Entry) (moment : ℕ) (w : Watching) (x : Standing) (query : Query)
    → IsSlotFor query x.slot w.watches
    → x.flight ≡ None
    → (h : StandsOver octets past seen history moment w)
    → ObserversStandFor (with_query x.slot query h.queries) octets later seen
    (w.observers ++ x ∷ [])
    → StandsOver octets later seen history moment
    (record { watches = one_more x.slot query w.watches; observers = w.observers ++ x ∷ [] })
added_stands octets past later seen history moment w x query for quiet h now = record {
  queries = with_query x.slot query h.queries;
  in_slots = more.in_slots;
  watches =
      subst (λ standing. WatchesStandFor standing (one_more x.slot query w.watches))
      (sym (observers-StandsFor (with_query x.slot query h.queries) octets later seen
      (w.observers ++ x ∷ []) now)) more.watches;
  observers = now;
  confirmable =
      each_push IsConfirmable w.observers x h.confirmable
      (λ s flies. absurd (let no : None ≡ Some s = sym quiet ∙ flies in cc));
  unmarked = each_more IsUnmarked query x.slot refl (λ p v n fits. fits) w.watches h.unmarked;
  bodies =
      each_more (IsListing history moment) query x.slot (λ body set. absurd cc)
      (λ p v n fits. fits) w.watches h.bodies;
}
  where
    more : AreWatchedBy (with_query x.slot query h.queries) (one_more x.slot query w.watches)
        (w.observers ++ x ∷ [])
    more =
        more-AreWatchedBy h.queries w.watches w.observers x x.slot query for refl
        (watched-StandsOver octets past seen history moment w h)
