-- What the watched queries and their observers show together, and the journal that they stand for
-- (RFC 7641 section 4).
use Rattle.std.specs.Prelude.{◌≡◌, ℕ, true, false, List, [], ◌∷◌, Some, map}
use Rattle.std.specs.List.{AllByRecursion}
use Rattle.rd_base.specs.declared.queries.Query.{Query}
use Rattle.history_model.specs.Listing.{listing}
use Rattle.event_model.specs.Flights.{Sent}
use Rattle.event_model.specs.Observers.{observers}
use Rattle.journal_model.specs.declared.rows.Row.{Row}
use Rattle.journal_model.specs.Journal.{events, entries, now, transitions}
use Rattle.journal_model.specs.Ticks.{octets_sent, is_confirmable_with}
use Rattle.watch_table.specs.WatchedQueries as watched
use Rattle.watch_table.specs.WatchedQueries.{Watched, query_at}
use Rattle.watch_table.specs.ObserverCounts.{WatchesStandFor}
use Rattle.observers.specs.Standing.{Standing, is_named}
use Rattle.observers.specs.ObserverEvents.{observer_of, ObserversStandFor}

-- The watched queries in their slots, and the observers, each with the slot of its query.
pub record Watching : Type 0 where
  pub watches : watched.Table
  pub observers : List Standing

-- States that the query of an observer is watched in its slot.
abbrev pub IsInSlot : watched.Table → (ℕ → Query) → Standing → Type 0
IsInSlot t queries w = query_at w.slot t ≡ Some (queries w.slot)

-- Watched queries and observers that agree, given the queries in their slots. Each query is watched
-- as often as it is observed.
pub record AreWatchedBy (queries : ℕ → Query) (t : watched.Table)
    (ws : List Standing) : Type 0 where
  pub in_slots : AllByRecursion (IsInSlot t queries) ws
  pub watches : WatchesStandFor (map (observer_of queries) ws) t

-- States that two observers differ in peer or token.
abbrev pub IsOtherName : Standing → Standing → Type 0
IsOtherName w other = is_named w.peer w.token other ≡ false

-- States that all observers differ in peer or token (RFC 7641 section 4.1).
abbrev pub HaveOtherNames : List Standing → Type 0
HaveOtherNames [] = Unit {0}
HaveOtherNames (w ∷ ws) = AllByRecursion (IsOtherName w) ws × HaveOtherNames ws

-- Watched queries and observers that agree. Each query is watched as often as it is observed, and
-- all observers differ in peer or token.
pub record AreWatched (t : watched.Table) (ws : List Standing) : Type 0 where
  pub queries : ℕ → Query
  pub by : AreWatchedBy queries t ws
  pub apart : HaveOtherNames ws

-- States that the body of an entry, if it has one, is the current listing of its query.
abbrev pub HasListing : List Row → ℕ × Watched → Type 0
HasListing rows e =
    (body : List ℕ) → e.1.body ≡ Some body → body ≡ listing e.1.query (entries rows) (now rows)

-- States that the entry is not marked.
abbrev pub IsUnmarked : ℕ × Watched → Type 0
IsUnmarked e = e.1.marked ≡ false

-- States that the notification in flight to an observer, if there is one, is a confirmable message
-- with its Message ID.
abbrev pub IsConfirmable : Standing → Type 0
IsConfirmable w = (s : Sent) → w.flight ≡ Some s → is_confirmable_with s.mid s.octets ≡ true

-- Watched queries and observers that stand for a journal. The observers are those of its events.
-- Each is due as the transitions of the journal say, and has the notification that is in flight to
-- it. Each query is watched as often as it is observed. No query is marked, and each body that is
-- set is the current listing.
pub record WatchingStandsFor (rows : List Row) (w : Watching) : Type 0 where
  pub queries : ℕ → Query
  pub in_slots : AllByRecursion (IsInSlot w.watches queries) w.observers
  pub watches : WatchesStandFor (observers (events rows)) w.watches
  pub observers : ObserversStandFor queries (octets_sent rows) (events rows) (transitions rows)
      w.observers
  pub confirmable : AllByRecursion IsConfirmable w.observers
  pub unmarked : AllByRecursion IsUnmarked w.watches
  pub bodies : AllByRecursion (HasListing rows) w.watches
