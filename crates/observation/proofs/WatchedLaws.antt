-- That each query is watched as often as it is observed: what leaves it so.
use Rattle.std.proofs.Common.{
  ◌≡◌,
  inl,
  inr,
  ℕ,
  ◌==◌,
  Bool,
  true,
  false,
  ◌||◌,
  cond,
  List,
  [],
  ◌∷◌,
  ◌++◌,
  map,
  find,
  Option,
  Some,
  None,
  option_map,
  refl,
  sym,
  ap,
  ap₂,
  subst,
  ◌∙◌,
  eqb-true,
}
use Rattle.std.specs.List.{AllByRecursion, list_any}
use Rattle.std.proofs.lemmas.Bool.{or_parts}
use Rattle.std.proofs.lemmas.List.{map-append}
use Rattle.rd_base.specs.declared.peers.Peer.{Peer}
use Rattle.rd_base.specs.declared.queries.Query.{Query}
use Rattle.rd_base.specs.declared.records.Record.{Record}
use Rattle.rd_base.specs.declared.queries.Kind.TheVariants as kind
use Rattle.rd_base.specs.Firsts.{changed_first, without_first}
use Rattle.rd_base.proofs.lemmas.Firsts.{without_first-unfound}
use Rattle.rd_base.proofs.lemmas.Among.{Among, all_among, among_all}
use Rattle.rd_base.proofs.lemmas.Each.{each_weaker, each_both, each_push}
use Rattle.rd_base.proofs.lemmas.Numbers.{eqb-refl}
use Rattle.history_model.specs.ChangedParts.{is_other_part}
use Rattle.event_model.specs.declared.notes.Observer.{Observer}
use Rattle.event_model.specs.Same.{RequestName, is_same_request, is_same_query}
use Rattle.event_model.specs.Observers.{is_watched}
use Rattle.event_model.proofs.SameLaws.{is_same_request-Decides, is_same_query-Decides}
use Rattle.watch_table.specs.WatchedQueries.{
  Watched,
  Table,
  query_at,
  all_touched,
  unmarked,
  all_unmarked,
  one_more,
  one_fewer,
  without,
  IsSlotFor,
}
use Rattle.watch_table.specs.ObserverCounts.{AreApart, WatchesStandFor}
use Rattle.watch_table.proofs.WatchedAtLaws.{
  query_at-same,
  query_at-own,
  query_at-more,
  query_at-fewer,
}
use Rattle.watch_table.proofs.TouchedLaws.{Keeps, kept-StandsFor}
use Rattle.watch_table.proofs.ObserverLaws.{fewer-StandsFor, more-StandsFor}
use Rattle.observers.specs.Standing.{Standing, is_named, changed_at}
use Rattle.observers.specs.ObserverEvents.{observer_of}
use Rattle.observation.specs.Marks.{touched_where, handed}
use Rattle.observation.specs.Watching.{
  IsInSlot,
  AreWatchedBy,
  IsOtherName,
  HaveOtherNames,
  AreWatched,
}
use Rattle.observation.proofs.FoundObservers.{
  Cut,
  cut_first,
  map-changed_first,
  map-changed_at,
  request_turned,
}
use Rattle.observation.proofs.WatchingParts.{touched_where-Keeps, unmarked-Keeps, in_slots_kept}

-- no observers
pub empty-AreWatched : AreWatched [] []
empty-AreWatched = record {
  queries = λ slot. record { kind = kind.Resource; criteria = []; page = None; count = None };
  by = record {
    in_slots = tt;
    watches = record { observers = λ query. refl; some = tt; apart = tt };
  };
  apart = tt;
}

-- by equal tables
pub both-AreWatched : {t t' : Table} {ws ws' : List Standing}
    → t ≡ t'
    → ws ≡ ws'
    → AreWatched t ws
    → AreWatched t' ws'
both-AreWatched {t} {t'} {ws} {ws'} one two h =
    subst (λ x. AreWatched x ws') one (subst (AreWatched t) two h)

-- ---- what is watched changes, but for queries and observers

pub changed-AreWatched : (change : Watched → Watched)
    → Keeps change
    → (t : Table) (ws : List Standing)
    → AreWatched t ws
    → AreWatched (map (λ (e : ℕ × Watched). (e.0, change e.1)) t) ws
changed-AreWatched change keeps t ws h = record {
  queries = h.queries;
  by = record {
    in_slots = in_slots_kept change keeps h.queries t ws h.by.in_slots;
    watches = kept-StandsFor change keeps (map (observer_of h.queries) ws) t h.by.watches;
  };
  apart = h.apart;
}

-- ---- observers change, but for who they are

-- an observer for which nothing was formed
abbrev pub without_notification : Standing → Standing
without_notification w = record w { due = false; last = []; flight = None }

pub same_observers : (queries : ℕ → Query) (ws : List Standing)
    → map (observer_of queries) ws ≡ map (observer_of queries) (map without_notification ws)
same_observers queries [] = refl
same_observers queries (w ∷ ws) =
    ap (λ (os : List Observer). observer_of queries w ∷ os) (same_observers queries ws)

pub same_in_slots : (t : Table) (queries : ℕ → Query) (ws : List Standing)
    → AllByRecursion (IsInSlot t queries) ws
    → AllByRecursion (IsInSlot t queries) (map without_notification ws)
same_in_slots t queries [] h = tt
same_in_slots t queries (w ∷ ws) h = (h.0, same_in_slots t queries ws h.1)

pub in_slots_same : (t : Table) (queries : ℕ → Query) (ws : List Standing)
    → AllByRecursion (IsInSlot t queries) (map without_notification ws)
    → AllByRecursion (IsInSlot t queries) ws
in_slots_same t queries [] h = tt
in_slots_same t queries (w ∷ ws) h = (h.0, in_slots_same t queries ws h.1)

names_same : (w : Standing) (ws others : List Standing)
    → map without_notification others ≡ map without_notification ws
    → AllByRecursion (IsOtherName w) ws
    → AllByRecursion (IsOtherName w) others
names_same w [] [] e h = tt
names_same w [] (x ∷ others) e h = absurd cc
names_same w (y ∷ ws) [] e h = absurd cc
names_same w (y ∷ ws) (x ∷ others) e h =
    let here : without_notification x ≡ without_notification y = cc in
    let rest : map without_notification others ≡ map without_notification ws = cc in (
      subst (λ (z : Standing). is_named w.peer w.token z ≡ false) (sym here) h.0,
      names_same w ws
          others rest h.1,
    )

apart_same : (ws others : List Standing)
    → map without_notification others ≡ map without_notification ws
    → HaveOtherNames ws
    → HaveOtherNames others
apart_same [] [] e h = tt
apart_same [] (x ∷ others) e h = absurd cc
apart_same (y ∷ ws) [] e h = absurd cc
apart_same (y ∷ ws) (x ∷ others) e h =
    let here : without_notification x ≡ without_notification y = cc in
    let rest : map without_notification others ≡ map without_notification ws = cc in (
      subst (λ (z : Standing). AllByRecursion (λ v. is_named z.peer z.token v ≡ false) others)
          (sym here) (names_same y ws others rest h.0),
      apart_same ws others rest h.1,
    )

pub same-AreWatched : (t : Table) (ws others : List Standing)
    → map without_notification others ≡ map without_notification ws
    → AreWatched t ws
    → AreWatched t others
same-AreWatched t ws others same h = record {
  queries = h.queries;
  by = record {
    in_slots =
        in_slots_same t h.queries others (subst (AllByRecursion (IsInSlot t h.queries)) (sym same)
        (same_in_slots t h.queries ws h.by.in_slots));
    watches =
        subst (λ standing. WatchesStandFor standing t) (same_observers h.queries ws
        ∙ (ap (map (observer_of h.queries)) (sym same)
        ∙ sym (same_observers h.queries others))) h.by.watches;
  };
  apart = apart_same ws others same h.apart;
}

handed-same : (t : Table) (ws : List Standing)
    → map without_notification (map (handed t) ws) ≡ map without_notification ws
handed-same t [] = refl
handed-same t (w ∷ ws) = ap (λ (xs : List Standing). without_notification w ∷ xs) (handed-same t ws)

-- after marks were set, and after they were handed on
pub touched-AreWatched : (old new : Option Record) (t : Table) (ws : List Standing)
    → AreWatched t ws
    → AreWatched (all_touched old new t) ws
touched-AreWatched old new t ws h =
    changed-AreWatched (touched_where (λ query. is_other_part query old new))
    (touched_where-Keeps (λ query. is_other_part query old new)) t ws h

pub handed-AreWatched : (t : Table) (ws : List Standing)
    → AreWatched t ws
    → AreWatched (all_unmarked t) (map (handed t) ws)
handed-AreWatched t ws h =
    same-AreWatched (all_unmarked t) ws (map (handed t) ws) (handed-same t ws)
    (changed-AreWatched unmarked unmarked-Keeps t ws h)

-- after what waits for the one with an index changed, or for the first that passes a test
pub changed_at-AreWatched : (change : Standing → Standing)
    → ((w : Standing) → without_notification (change w) ≡ without_notification w)
    → (i : ℕ) (t : Table) (ws : List Standing)
    → AreWatched t ws
    → AreWatched t (changed_at change i ws)
changed_at-AreWatched change same i t ws h =
    same-AreWatched t ws (changed_at change i ws)
    (map-changed_at without_notification change same i ws) h

pub changed_first-AreWatched : (test : Standing → Bool) (change : Standing → Standing)
    → ((w : Standing) → without_notification (change w) ≡ without_notification w)
    → (t : Table) (ws : List Standing)
    → AreWatched t ws
    → AreWatched t (changed_first test change ws)
changed_first-AreWatched test change same t ws h =
    same-AreWatched t ws (changed_first test change ws)
    (map-changed_first without_notification test change same ws) h

-- ---- one observer fewer

-- what holds of each holds of those that are left
pub each_left : {X : Type 0} (P : X → Type 0) (front back : List X) (x : X)
    → AllByRecursion P (front ++ x ∷ back)
    → AllByRecursion P (front ++ back) × P x
each_left P [] back x h = (h.1, h.0)
each_left P (y ∷ front) back x h =
    let rest = each_left P front back x h.1 in ((h.0, rest.0), rest.1)

-- the query of each observer is observed
observed : (queries : ℕ → Query) (w : Standing) (ws : List Standing)
    → Among w ws
    → is_watched (queries w.slot) (map (observer_of queries) ws) ≡ true
observed queries w [] nothing = absurd nothing
observed queries w (x ∷ ws) (inl same) =
    let here : is_same_query (queries x.slot) (queries w.slot) ≡ true =
    (is_same_query-Decides (queries x.slot) (queries w.slot)).1
    (ap (λ (y : Standing). queries y.slot) same) in
    rw here refl
observed queries w (x ∷ ws) (inr further) =
    by (is_same_query (queries x.slot) (queries w.slot)) (observed queries w ws further)
  where
    by : (b : Bool)
        → is_watched (queries w.slot) (map (observer_of queries) ws) ≡ true
        → (b || is_watched (queries w.slot) (map (observer_of queries) ws)) ≡ true
    by true h = refl
    by false h = h

pub fewer-AreWatchedBy : (queries : ℕ → Query) (t : Table) (front back : List Standing)
    (x : Standing)
    → AreWatchedBy queries t (front ++ x ∷ back)
    → AreWatchedBy queries (one_fewer x.slot t) (front ++ back)
fewer-AreWatchedBy queries t front back x h = record {
  in_slots = among_all (IsInSlot (one_fewer x.slot t) queries) (front ++ back) (λ y among.
      query_at-fewer (map (observer_of queries) front) (map (observer_of queries) back)
      (observer_of queries x) (queries y.slot) x.slot y.slot t left.1
      (all_among (IsInSlot t queries) y (front ++ back) left.0 among)
      (subst (λ standing. is_watched (queries y.slot) standing ≡ true)
      (map-append (observer_of queries) front back) (observed queries y (front ++ back) among))
      stands);
  watches =
      subst (λ standing. WatchesStandFor standing (one_fewer x.slot t))
      (sym (map-append (observer_of queries) front back))
      (fewer-StandsFor (map (observer_of queries) front) (map (observer_of queries) back)
      (observer_of queries x) x.slot t left.1 stands);
}
  where
    left : AllByRecursion (IsInSlot t queries) (front ++ back) × IsInSlot t queries x
    left = each_left (IsInSlot t queries) front back x h.in_slots

    stands : WatchesStandFor
        (map (observer_of queries) front ++ observer_of queries x ∷ map (observer_of queries) back)
        t
    stands =
        subst (λ standing. WatchesStandFor standing t)
        (map-append (observer_of queries) front (x ∷ back)) h.watches

apart_left : (front back : List Standing) (x : Standing)
    → HaveOtherNames (front ++ x ∷ back)
    → HaveOtherNames (front ++ back)
apart_left [] back x h = h.1
apart_left (w ∷ front) back x h =
    ((each_left (IsOtherName w) front back x h.0).0, apart_left front back x h.1)

pub fewer-AreWatched : (t : Table) (front back : List Standing) (x : Standing)
    → AreWatched t (front ++ x ∷ back)
    → AreWatched (one_fewer x.slot t) (front ++ back)
fewer-AreWatched t front back x h = record {
  queries = h.queries;
  by = fewer-AreWatchedBy h.queries t front back x h.by;
  apart = apart_left front back x h.apart;
}

-- without the one with an index, or the first that passes a test
pub cut-AreWatched : (t : Table) (ws left : List Standing) (x : Standing)
    → Cut ws left x
    → AreWatched t ws
    → AreWatched (one_fewer x.slot t) left
cut-AreWatched t ws left x cut h =
    subst (AreWatched (one_fewer x.slot t)) (sym cut.rest)
    (fewer-AreWatched t cut.front cut.back x (subst (AreWatched t) cut.whole h))

pub left-AreWatched : (test : Standing → Bool) (t : Table) (ws : List Standing)
    → AreWatched t ws
    → AreWatched (without (option_map (λ x. x.slot) (find test ws)) t) (without_first test ws)
left-AreWatched test t ws h = by (find test ws) refl
  where
    by : (o : Option Standing)
        → find test ws ≡ o
        → AreWatched (without (option_map (λ (x : Standing). x.slot) o) t)
        (without_first test ws)
    by None none = subst (AreWatched t) (sym (without_first-unfound test ws none)) h
    by (Some x) found = cut-AreWatched t ws (without_first test ws) x (cut_first test ws x found) h

-- ---- one observer more

-- the queries in their slots, with one more
abbrev pub with_query : ℕ → Query → (ℕ → Query) → ℕ → Query
with_query slot query queries p = cond (p == slot) query (queries p)

pub with_own : (slot : ℕ) (query : Query) (queries : ℕ → Query)
    → with_query slot query queries slot ≡ query
with_own slot query queries = ap (λ b. cond b query (queries slot)) (eqb-refl slot)

-- it is the query of its slot already, where that is watched
pub with_same : (slot : ℕ) (query : Query) (queries : ℕ → Query) (t : Table)
    (ws : List Standing)
    → AreApart t
    → IsSlotFor query slot t
    → AllByRecursion (IsInSlot t queries) ws
    → AllByRecursion (λ w. with_query slot query queries w.slot ≡ queries w.slot) ws
with_same slot query queries t ws apart for in_slots =
    each_weaker (IsInSlot t queries) (λ w. with_query slot query queries w.slot ≡ queries w.slot)
    (λ w p. by w p (w.slot == slot) refl) ws in_slots
  where
    by : (w : Standing)
        → IsInSlot t queries w
        → (b : Bool)
        → (w.slot == slot) ≡ b
        → cond b query (queries w.slot) ≡ queries w.slot
    by w p false e = refl
    by w p true e =
        sym (query_at-same query (queries w.slot) slot t apart for
        (subst (λ n. query_at n t ≡ Some (queries w.slot)) (eqb-true w.slot slot e) p))

pub same_named : (queries others : ℕ → Query) (ws : List Standing)
    → AllByRecursion (λ w. others w.slot ≡ queries w.slot) ws
    → map (observer_of others) ws ≡ map (observer_of queries) ws
same_named queries others [] h = refl
same_named queries others (w ∷ ws) h =
    ap₂ (λ (o : Observer) (os : List Observer). o ∷ os)
    (ap (λ q. record (observer_of queries w) { query = q }) h.0)
    (same_named queries others ws h.1)

pub more-AreWatchedBy : (queries : ℕ → Query) (t : Table) (ws : List Standing) (x : Standing)
    (slot : ℕ) (query : Query)
    → IsSlotFor query slot t
    → x.slot ≡ slot
    → AreWatchedBy queries t ws
    → AreWatchedBy (with_query slot query queries) (one_more slot query t) (ws ++ x ∷ [])
more-AreWatchedBy queries t ws x slot query for at h = record {
  in_slots = each_push (IsInSlot (one_more slot query t) others) ws x
      (each_both (IsInSlot t queries) (λ w. others w.slot ≡ queries w.slot)
      (IsInSlot (one_more slot query t) others) (λ w p same.
      query_at-more query (queries w.slot) slot w.slot t p ∙ ap (λ q. Some q) (sym same))
      ws h.in_slots sames)
      (subst (λ n. query_at n (one_more slot query t) ≡ Some (others n)) (sym at)
      (query_at-own query slot t h.watches.apart for
      ∙ ap (λ q. Some q) (sym (with_own slot query queries))));
  watches =
      subst (λ standing. WatchesStandFor standing (one_more slot query t))
      (sym (map-append (observer_of others) ws (x ∷ [])))
      (subst (λ q.
      WatchesStandFor (map (observer_of others) ws ++ observer_of others x ∷ [])
      (one_more slot q t)) own
      (more-StandsFor (map (observer_of others) ws) (observer_of others x) slot t
      (subst (λ q. IsSlotFor q slot t) (sym own) for)
      (subst (λ standing. WatchesStandFor standing t) (sym (same_named queries others ws sames))
      h.watches)));
}
  where
    others : ℕ → Query
    others = with_query slot query queries

    sames : AllByRecursion (λ w. others w.slot ≡ queries w.slot) ws
    sames = with_same slot query queries t ws h.watches.apart for h.in_slots

    own : others x.slot ≡ query
    own = ap others at ∙ with_own slot query queries

-- one of another name than each
apart_pushed : (ws : List Standing) (x : Standing)
    → list_any (is_named x.peer x.token) ws ≡ false
    → HaveOtherNames ws
    → HaveOtherNames (ws ++ x ∷ [])
apart_pushed [] x new h = (tt, tt)
apart_pushed (w ∷ ws) x new h =
    let both = or_parts (is_named x.peer x.token w) (list_any (is_named x.peer x.token) ws) new in (
      each_push (IsOtherName w) ws x h.0
          (request_turned (w.peer, w.token) (x.peer, x.token) ∙ both.0),
      apart_pushed ws x both.1 h.1,
    )

pub more-AreWatched : (t : Table) (ws : List Standing) (x : Standing) (slot : ℕ) (query : Query)
    → IsSlotFor query slot t
    → x.slot ≡ slot
    → list_any (is_named x.peer x.token) ws ≡ false
    → AreWatched t ws
    → AreWatched (one_more slot query t) (ws ++ x ∷ [])
more-AreWatched t ws x slot query for at new h = record {
  queries = with_query slot query h.queries;
  by = more-AreWatchedBy h.queries t ws x slot query for at h.by;
  apart = apart_pushed ws x new h.apart;
}

-- ---- names

-- where the one of a name is taken out, none has it
pub apart_absent : (peer : Peer) (token : List ℕ) (ws : List Standing)
    → HaveOtherNames ws
    → list_any (is_named peer token) (without_first (is_named peer token) ws) ≡ false
unfolding without_first
apart_absent peer token [] h = refl
apart_absent peer token (w ∷ ws) h =
    by (is_named peer token w) refl (apart_absent peer token ws h.1)
  where
    none : (xs : List Standing)
        → is_named peer token w ≡ true
        → AllByRecursion (IsOtherName w) xs
        → list_any (is_named peer token) xs ≡ false
    none [] e o = refl
    none (x ∷ xs) e o =
        let same = (is_same_request-Decides (peer, token) (w.peer, w.token)).0 e in
        let other : is_same_request (peer, token) (x.peer, x.token) ≡ false =
        ap (λ (n : RequestName). is_same_request n (x.peer, x.token)) same ∙ o.0 in
        rw other (none xs e o.1)

    by : (b : Bool)
        → is_named peer token w ≡ b
        → list_any (is_named peer token) (without_first (is_named peer token) ws) ≡ false
        → list_any (is_named peer token) (cond b ws (w ∷ without_first (is_named peer token) ws))
        ≡ false
    by true e more = none ws e h.0
    by false e more = rw e more
