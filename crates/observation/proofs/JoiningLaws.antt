-- An observer joins, or is looked for: what is answered by the table is so by the events, and what
-- becomes of it stands for the journal.
use Rattle.std.proofs.Common.{
  ◌≡◌,
  ℕ,
  ◌&&◌,
  ◌||◌,
  nat_lt,
  Bool,
  true,
  false,
  not,
  cond,
  suc,
  List,
  [],
  ◌∷◌,
  ◌++◌,
  length,
  map,
  filter,
  find,
  Option,
  Some,
  None,
  is_some,
  option_map,
  Result,
  Ok,
  Err,
  IfOk,
  refl,
  sym,
  ap,
  ap₂,
  subst,
  ◌∙◌,
}
use Rattle.std.specs.Arc.{arc_value}
use Rattle.std.specs.List.{list_any}
use Rattle.rd_base.specs.declared.out_of_memory.Starved.{Starved}
use Rattle.rd_base.specs.declared.peers.Peer.{Peer}
use Rattle.rd_base.specs.declared.queries.Query.{Query}
use Rattle.rd_base.specs.Firsts.{without_first}
use Rattle.rd_base.proofs.lemmas.Firsts.{without_first-unfound}
use Rattle.event_model.specs.declared.notes.Note.TheVariants as note
use Rattle.event_model.specs.declared.notes.Observer.{Observer}
use Rattle.event_model.specs.Same.{is_same_request}
use Rattle.event_model.specs.Events.{Event}
use Rattle.event_model.specs.Flights.{OctetsSent}
use Rattle.event_model.specs.Due.{Transition}
use Rattle.event_model.specs.Observers.{
  name_of,
  max_observers,
  max_watched,
  observers,
  is_observer,
  is_watched,
  number_watched,
  has_room_for,
}
use Rattle.event_model.proofs.NotedLaws.{event_at}
use Rattle.event_model.proofs.ObserverEvents.{observers-Unwatched}
use Rattle.journal_model.specs.declared.steps.Step.{Step}
use Rattle.journal_model.specs.declared.rows.Row.{Row}
use Rattle.journal_model.specs.Effects.{Effects, joined, noting}
use Rattle.journal_model.specs.EmptyMessages.{waited_for}
use Rattle.journal_model.specs.Journal.{events, transitions}
use Rattle.journal_model.specs.Lookups.{removal, addition, without as without_name}
use Rattle.journal_model.specs.Ticks.{octets_sent}
use Rattle.journal_model.specs.UnfinishedRow.{making}
use Rattle.watch_table.specs.WatchedQueries.{Table, one_more, without}
use Rattle.watch_table.specs.ObserverCounts.{WatchesStandFor}
use Rattle.observers.specs.Standing.{Standing, is_named, has_notification}
use Rattle.observers.specs.ObserverEvents.{observer_of, ObserversStandFor}
use Rattle.observers.proofs.StandLaws.{observers-StandsFor, dropped-StandsFor}
use Rattle.observation.specs.declared.joining.Joining.{Joining}
use Rattle.observation.specs.Joining.{
  observer_joining,
  standing_joining,
  without_observer,
  Joins,
  has_room,
  joining_notes,
}
use Rattle.observation.specs.Watching.{Watching, AreWatchedBy, AreWatched, WatchingStandsFor}
use Rattle.observation.proofs.FoundObservers.{
  cut_first,
  in_list,
  request_turned,
  waited_for-StandsFor,
  is_observer-found,
}
use Rattle.observation.proofs.WatchedLaws.{
  both-AreWatched,
  left-AreWatched,
  fewer-AreWatchedBy,
  more-AreWatched,
}
use Rattle.observation.proofs.WatchingNotes.{
  joined_noting,
  WatchingStandsFor-left,
  WatchingStandsFor-added,
}

-- ---- who is found

any_found : {X : Type 0} (test : X → Bool) (xs : List X) → list_any test xs ≡ is_some (find test xs)
any_found test [] = refl
any_found {X} test (x ∷ xs) = by (test x) (any_found test xs)
  where
    by : (b : Bool)
        → list_any test xs ≡ is_some (find test xs)
        → (b || list_any test xs) ≡ is_some (cond b (Some x) (find test xs))
    by true more = refl
    by false more = more

-- an observer of this peer and token stands exactly where the table finds one
pub is_observer-StandsFor : (rows : List Row) (w : Watching) (peer : Peer) (token : List ℕ)
    → WatchingStandsFor rows w
    → is_some (find (is_named peer token) w.observers)
    ≡ is_observer (peer, token) (observers (events rows))
is_observer-StandsFor rows w peer token h =
    sym (ap (is_observer (peer, token))
    (observers-StandsFor h.queries (octets_sent rows) (events rows) (transitions rows)
    w.observers h.observers)
    ∙ is_observer-found h.queries peer token w.observers)

-- a message with this Message ID is waited for exactly where the table finds one
pub is_waited-StandsFor : (rows : List Row) (w : Watching) (peer : Peer) (mid : ℕ)
    → WatchingStandsFor rows w
    → is_some (find (has_notification peer mid) w.observers)
    ≡ nat_lt 0 (length (waited_for peer mid (events rows)))
is_waited-StandsFor rows w peer mid h =
    by (find (has_notification peer mid) w.observers)
    ∙ sym (ap (λ os. nat_lt 0 (length os))
    (waited_for-StandsFor h.queries (octets_sent rows) (events rows) (transitions rows)
    w.observers peer mid h.observers))
  where
    by : (o : Option Standing)
        → is_some o ≡ nat_lt 0 (length (map (observer_of h.queries) (in_list o)))
    by None = refl
    by (Some x) = refl

pub any_waited-StandsFor : (rows : List Row) (w : Watching) (peer : Peer) (mid : ℕ)
    → WatchingStandsFor rows w
    → list_any (has_notification peer mid) w.observers
    ≡ nat_lt 0 (length (waited_for peer mid (events rows)))
any_waited-StandsFor rows w peer mid h =
    any_found (has_notification peer mid) w.observers ∙ is_waited-StandsFor rows w peer mid h

-- ---- room

same_kept : (test other : Observer → Bool)
    → ((o : Observer) → test o ≡ other o)
    → (os : List Observer)
    → filter (λ o. not (test o)) os ≡ filter (λ o. not (other o)) os
same_kept test other same [] = refl
same_kept test other same (o ∷ os) =
    ap₂ (λ (b : Bool) (xs : List Observer). cond (not b) (o ∷ xs) xs) (same o)
    (same_kept test other same os)

-- the observers of other names
others-StandsFor : (queries : ℕ → Query) (octets : OctetsSent) (past : List Event)
    (seen : List Transition) (ws : List Standing) (peer : Peer) (token : List ℕ)
    → ObserversStandFor queries octets past seen ws
    → without_name (peer, token) (observers past)
    ≡ map (observer_of queries) (without_first (is_named peer token) ws)
others-StandsFor queries octets past seen ws peer token h =
    same_kept (λ o. is_same_request (name_of o) (peer, token))
    (λ o. is_same_request (peer, token) (name_of o))
    (λ o. request_turned (name_of o) (peer, token)) (observers past)
    ∙ (sym (observers-Unwatched 0 0 0 peer token past)
    ∙ observers-StandsFor queries octets (event_at 0 0 0 (note.Unwatched peer token) ∷ past) seen
    (without_first (is_named peer token) ws)
    (dropped-StandsFor queries octets past seen (event_at 0 0 0 (note.Unwatched peer token)) peer
    token ws refl h))

-- and how often each query is watched then
left-AreWatchedBy : (queries : ℕ → Query) (t : Table) (ws : List Standing) (peer : Peer)
    (token : List ℕ)
    → AreWatchedBy queries t ws
    → AreWatchedBy queries (without (option_map (λ x. x.slot) (find (is_named peer token) ws)) t)
    (without_first (is_named peer token) ws)
left-AreWatchedBy queries t ws peer token h = by (find (is_named peer token) ws) refl
  where
    by : (o : Option Standing)
        → find (is_named peer token) ws ≡ o
        → AreWatchedBy queries (without (option_map (λ (x : Standing). x.slot) o) t)
        (without_first (is_named peer token) ws)
    by None none =
        subst (AreWatchedBy queries t) (sym (without_first-unfound (is_named peer token) ws none)) h
    by (Some x) found =
        let cut = cut_first (is_named peer token) ws x found in
        subst (AreWatchedBy queries (without (Some x.slot) t)) (sym cut.rest)
        (fewer-AreWatchedBy queries t cut.front cut.back x
        (subst (AreWatchedBy queries t) cut.whole h))

map_length : {X Y : Type 0} (f : X → Y) (xs : List X) → length (map f xs) ≡ length xs
map_length f [] = refl
map_length f (x ∷ xs) = ap (λ n. suc n) (map_length f xs)

-- One more observer has room by the table exactly where it has by the events.
pub room-StandsFor : (rows : List Row) (w : Watching) (query : Query) (peer : Peer) (token : List ℕ)
    (added : Bool)
    → WatchingStandsFor rows w
    → ((standing : List Observer)
    → WatchesStandFor standing
    (without (option_map (λ x. x.slot) (find (is_named peer token) w.observers)) w.watches)
    → added
    ≡ has_room query (length (without_first (is_named peer token) w.observers)) standing)
    → added ≡ has_room_for query (without_name (peer, token) (observers (events rows)))
unfolding has_room_for
room-StandsFor rows w query peer token added h room =
    room (map (observer_of h.queries) left) watched.watches
    ∙ (ap (λ n.
    nat_lt n max_observers
    && (is_watched query (map (observer_of h.queries) left)
    || nat_lt (number_watched (map (observer_of h.queries) left)) max_watched))
    (sym (map_length (observer_of h.queries) left))
    ∙ ap (λ standing.
    nat_lt (length standing) max_observers
    && (is_watched query standing || nat_lt (number_watched standing) max_watched))
    (sym (others-StandsFor h.queries (octets_sent rows) (events rows) (transitions rows) w.observers
    peer token h.observers)))
  where
    left : List Standing
    left = without_first (is_named peer token) w.observers

    watched : AreWatchedBy h.queries
        (without (option_map (λ (x : Standing). x.slot) (find (is_named peer token) w.observers))
        w.watches) left
    watched = left-AreWatchedBy h.queries w.watches w.observers peer token record {
      in_slots = h.in_slots;
      watches =
          subst (λ standing. WatchesStandFor standing w.watches)
          (observers-StandsFor h.queries (octets_sent rows) (events rows) (transitions rows)
          w.observers h.observers) h.watches;
    }

-- ---- joining

-- An observer joins: that of its peer and token goes, and it is added or not.
pub WatchingStandsFor-joined : (rows : List Row) (s : Step) (starved : Bool) (done : Effects)
    (query : Query) (j : Joining) (added : Bool) (w w' : Watching)
    → list_any (is_named j.peer j.token) (without_first (is_named j.peer j.token) w.observers)
    ≡ false
    → Joins query j w (Ok added) w'
    → WatchingStandsFor (making rows s starved done) w
    → WatchingStandsFor (making rows s starved
    (joined done (noting (joining_notes added (observer_joining query j) (arc_value j.body)
    (observers (events (making rows s starved done))))))) w'
WatchingStandsFor-joined rows s starved done query j false w w' new is h =
    subst (WatchingStandsFor
    (making rows s starved (joined done (noting (removal (j.peer, j.token) standing)))))
    (sym is) (WatchingStandsFor-left rows s starved done j.peer j.token w h)
  where
    standing : List Observer
    standing = observers (events (making rows s starved done))
WatchingStandsFor-joined rows s starved done query j true w w' new is h =
    subst (λ v.
    WatchingStandsFor
    (making rows s starved (joined done (noting (removal (j.peer, j.token) standing
    ++ addition (observer_joining query j) (arc_value j.body))))) v)
    same
    (subst (λ e.
    WatchingStandsFor (making rows s starved e)
    (record {
      watches = one_more is.slot query left.watches;
      observers = left.observers
          ++ standing_joining is.slot j
          ∷ [];
    }))
    (joined_noting done (removal (j.peer, j.token) standing)
    (addition (observer_joining query j) (arc_value j.body)))
    (WatchingStandsFor-added rows s starved
    (joined done (noting (removal (j.peer, j.token) standing))) query
    (standing_joining is.slot j) left new refl refl is.slot_for
    (WatchingStandsFor-left rows s starved done j.peer j.token w h)))
  where
    standing : List Observer
    standing = observers (events (making rows s starved done))

    left : Watching
    left = without_observer j.peer j.token w

    same : ◌≡◌ {A = Watching}
        (record {
          watches = one_more is.slot query left.watches;
          observers = left.observers
              ++ standing_joining is.slot j
              ∷ [];
        }) w'
    same = ap₂ (λ t ws. record { watches = t; observers = ws }) (sym is.watches) (sym is.observers)

-- by the answer
pub room-IfOk : (rows : List Row) (w : Watching) (query : Query) (peer : Peer) (token : List ℕ)
    (r : Result Bool Starved)
    → WatchingStandsFor rows w
    → ((standing : List Observer)
    → WatchesStandFor standing
    (without (option_map (λ x. x.slot) (find (is_named peer token) w.observers)) w.watches)
    → IfOk r (λ added. added
    ≡ has_room query (length (without_first (is_named peer token) w.observers))
    standing))
    → IfOk r
    (λ added. added ≡ has_room_for query (without_name (peer, token) (observers (events rows))))
room-IfOk rows w query peer token (Ok added) h room =
    room-StandsFor rows w query peer token added h room
room-IfOk rows w query peer token (Err starved) h room = tt

pub joined-IfOk : (rows : List Row) (s : Step) (starved : Bool) (done : Effects) (query : Query)
    (j : Joining) (r : Result Bool Starved) (w w' : Watching)
    → list_any (is_named j.peer j.token) (without_first (is_named j.peer j.token) w.observers)
    ≡ false
    → Joins query j w r w'
    → WatchingStandsFor (making rows s starved done) w
    → IfOk r (λ added.
    WatchingStandsFor (making rows s starved (joined done
    (noting (joining_notes added (observer_joining query j) (arc_value j.body)
    (observers (events (making rows s starved done))))))) w')
joined-IfOk rows s starved done query j (Ok added) w w' new is h =
    WatchingStandsFor-joined rows s starved done query j added w w' new is h
joined-IfOk rows s starved done query j (Err e) w w' new is h = tt

-- each query is watched as often as it is observed then
pub joined-AreWatched : (query : Query) (j : Joining) (r : Result Bool Starved) (w w' : Watching)
    → list_any (is_named j.peer j.token) (without_first (is_named j.peer j.token) w.observers)
    ≡ false
    → Joins query j w r w'
    → AreWatched w.watches w.observers → AreWatched w'.watches w'.observers
joined-AreWatched query j (Ok true) w w' new is h =
    both-AreWatched (sym is.watches) (sym is.observers)
    (more-AreWatched (without_observer j.peer j.token w).watches
    (without_observer j.peer j.token w).observers (standing_joining is.slot j) is.slot query
    is.slot_for refl new (left-AreWatched (is_named j.peer j.token) w.watches w.observers h))
joined-AreWatched query j (Ok false) w w' new is h =
    subst (λ (v : Watching). AreWatched v.watches v.observers) (sym is)
    (left-AreWatched (is_named j.peer j.token) w.watches w.observers h)
joined-AreWatched query j (Err e) w w' new is h =
    subst (λ (v : Watching). AreWatched v.watches v.observers) (sym is) h
