-- The events that a table of observers stands for, after each change of the table.
use Rattle.std.proofs.Common.{
  if◌then◌else◌,
  ◌≡◌,
  ◌≢◌,
  ℕ,
  ◌+◌,
  ◌==◌,
  zero,
  suc,
  Bool,
  true,
  false,
  not,
  ◌&&◌,
  cond,
  List,
  [],
  ◌∷◌,
  ◌++◌,
  map,
  filter,
  find,
  length,
  slice_get,
  Option,
  Some,
  None,
  is_some,
  option_map,
  refl,
  sym,
  ap,
  ap₂,
  subst,
  ◌∙◌,
  arith,
}
use Rattle.std.specs.List.{AllByRecursion, list_any, remove}
use Rattle.std.proofs.lemmas.Bool.{false≢true, and_parts, and_from, or_parts}
use Rattle.std.proofs.lemmas.List.{map-append}
use Rattle.rd_base.specs.declared.peers.Peer.{Peer}
use Rattle.rd_base.specs.declared.queries.Query.{Query}
use Rattle.rd_base.proofs.lemmas.Each.{each_weaker, each_one}
use Rattle.rd_base.proofs.lemmas.Pairs.{
  PairsByRecursion,
  pairs_weaker,
  pairs_filter,
  pairs_map,
  pairs_push,
  pairs_both,
}
use Rattle.event_model.specs.declared.notes.Note.{Note}
use Rattle.event_model.specs.declared.notes.Note.TheVariants as note
use Rattle.event_model.specs.declared.notes.Observer.{Observer}
use Rattle.event_model.specs.Same.{RequestName, is_same_peer, is_same_request}
use Rattle.event_model.specs.Events.{Event}
use Rattle.event_model.specs.Observers.{name_of, observers}
use Rattle.event_model.specs.Flights.{
  Retransmission,
  Sent,
  OctetsSent,
  Flight,
  retransmission,
  flight,
  notification_sent,
  waiting_notification,
}
use Rattle.event_model.specs.Due.{Transition, Watching, watching, observers_standing}
use Rattle.event_model.proofs.NotedLaws.{event_at}
use Rattle.event_model.proofs.ObserverLaws.{Apart, observers-apart}
use Rattle.event_model.proofs.SameLaws.{
  is_same_peer-Decides,
  is_same_peer-refl,
  is_same_request-Decides,
  is_same_request-refl,
}
use Rattle.exchange_core.specs.declared.resends.Again.{Again}
use Rattle.exchange_core.specs.declared.resends.Again.TheVariants as again
use Rattle.exchange_core.specs.Retransmissions.{Resends, kept_due}
use Rattle.exchange_core.proofs.ResendLaws.{kept_due-deadline, kept_after-unsent}
use Rattle.rd_base.specs.Firsts.{changed_first, without_first}
use Rattle.observers.specs.Standing.{
  Standing,
  is_named,
  is_sent_as,
  has_notification,
  is_awaited,
  notified,
  seen,
  landed,
  due_of,
  kept_of,
  timed,
  changed_at,
}
use Rattle.observers.specs.ObserverEvents.{
  observer_of,
  shown,
  AwaitsOne,
  EachAwaitsOne,
  ObserversStandFor,
  NoneLater,
  notification_due,
}
use Rattle.observers.proofs.EventLaws.{
  parts,
  formed_for,
  message_formed,
  seen_for,
  sent_again,
  again_for,
  landed_for,
  added,
  standing-unwatched,
  standing-formed,
  standing-unchanged,
  standing-again,
  standing-landed,
  standing-added,
}

-- ---- pairs

to_pairs : (ws : List Standing) → EachAwaitsOne ws → PairsByRecursion AwaitsOne ws
to_pairs [] h = tt
to_pairs (w ∷ ws) h = (h.0, to_pairs ws h.1)

from_pairs : (ws : List Standing) → PairsByRecursion AwaitsOne ws → EachAwaitsOne ws
from_pairs [] h = tt
from_pairs (w ∷ ws) h = (h.0, from_pairs ws h.1)

each_unmap : {X Y : Type 0} (P : Y → Type 0) (f : X → Y) (xs : List X)
    → AllByRecursion P (map f xs)
    → AllByRecursion (λ x. P (f x)) xs
each_unmap P f [] h = tt
each_unmap P f (x ∷ xs) h = (h.0, each_unmap P f xs h.1)

pairs_unmap : {X Y : Type 0} (R : Y → Y → Type 0) (f : X → Y) (xs : List X)
    → PairsByRecursion R (map f xs)
    → PairsByRecursion (λ x y. R (f x) (f y)) xs
pairs_unmap R f [] h = tt
pairs_unmap R f (x ∷ xs) h = (each_unmap (R (f x)) f xs h.0, pairs_unmap R f xs h.1)

-- ---- at most one passes

abbrev pub Only : (Standing → Bool) → Standing → Standing → Type 0
Only test x y = test x ≡ true → test y ≡ false

abbrev pub OnlyOne : (Standing → Bool) → List Standing → Type 0
OnlyOne test ws = PairsByRecursion (Only test) ws

-- one that passes changes, and others stay
abbrev pub where_passes : (Standing → Bool) → (Standing → Standing) → Standing → Standing
where_passes test change w = if test w then change w else w

none_changes : (test : Standing → Bool) (change : Standing → Standing) (ws : List Standing)
    → AllByRecursion (λ w. test w ≡ false) ws
    → map (where_passes test change) ws ≡ ws
none_changes test change [] h = refl
none_changes test change (w ∷ ws) h =
    ap₂ (λ x xs. x ∷ xs) (rw h.0 refl) (none_changes test change ws h.1)

none_goes : (test : Standing → Bool) (ws : List Standing)
    → AllByRecursion (λ w. test w ≡ false) ws
    → filter (λ w. not (test w)) ws ≡ ws
none_goes test [] h = refl
none_goes test (w ∷ ws) h = rw h.0 (ap (λ rest. w ∷ rest) (none_goes test ws h.1))

rest_fails : (test : Standing → Bool) (w : Standing) (ws : List Standing)
    → AllByRecursion (Only test w) ws
    → test w ≡ true
    → AllByRecursion (λ x. test x ≡ false) ws
rest_fails test w ws only e = each_weaker (Only test w) (λ x. test x ≡ false) (λ x o. o e) ws only

only_first : (test : Standing → Bool) (change : Standing → Standing) (ws : List Standing)
    → OnlyOne test ws
    → map (where_passes test change) ws ≡ changed_first test change ws
unfolding changed_first
only_first test change [] only = refl
only_first test change (w ∷ ws) only = by (test w) refl (only_first test change ws only.1)
  where
    by : (b : Bool) → test w ≡ b → map (where_passes test change) ws ≡ changed_first test change ws
        → cond b (change w) w ∷ map (where_passes test change) ws
        ≡ cond b (change w ∷ ws) (w ∷ changed_first test change ws)
    by true e more =
        ap (λ rest. change w ∷ rest) (none_changes test change ws (rest_fails test w ws only.0 e))
    by false e more = ap (λ rest. w ∷ rest) more

-- what holds of each holds of the one with an index
each_at : (P : Standing → Type 0) (ws : List Standing) (i : ℕ) (w : Standing)
    → AllByRecursion P ws
    → slice_get ws i ≡ Some w
    → P w
each_at P [] i w h is = absurd cc
each_at P (x ∷ ws) zero w h is = let same : x ≡ w = cc in subst P same h.0
each_at P (x ∷ ws) (suc i) w h is = each_at P ws i w h.1 is

before_fails : (test : Standing → Bool) (x : Standing) (ws : List Standing) (i : ℕ)
    (w : Standing)
    → AllByRecursion (Only test x) ws
    → slice_get ws i ≡ Some w
    → test w ≡ true
    → test x ≡ false
before_fails test x ws i w only is passes = by (test x) refl
  where
    by : (b : Bool) → test x ≡ b → b ≡ false
    by false e = refl
    by true e = absurd (false≢true (sym (each_at (Only test x) ws i w only is e) ∙ passes))

only_at : (test : Standing → Bool) (change : Standing → Standing) (ws : List Standing) (i : ℕ)
    (w : Standing)
    → OnlyOne test ws
    → slice_get ws i ≡ Some w
    → test w ≡ true
    → map (where_passes test change) ws ≡ changed_at change i ws
only_at test change [] i w only is passes = absurd cc
only_at test change (x ∷ ws) zero w only is passes =
    let same : x ≡ w = cc in
    let here : test x ≡ true = subst (λ y. test y ≡ true) (sym same) passes in
    ap₂ (λ y ys. y ∷ ys) (rw here refl)
    (none_changes test change ws (rest_fails test x ws only.0 here))
only_at test change (x ∷ ws) (suc i) w only is passes =
    let other = before_fails test x ws i w only.0 is passes in
    ap₂ (λ y ys. y ∷ ys) (rw other refl) (only_at test change ws i w only.1 is passes)

only_gone : (test : Standing → Bool) (ws : List Standing)
    → OnlyOne test ws
    → filter (λ w. not (test w)) ws ≡ without_first test ws
unfolding without_first
only_gone test [] only = refl
only_gone test (w ∷ ws) only = by (test w) refl (only_gone test ws only.1)
  where
    by : (b : Bool)
        → test w ≡ b
        → filter (λ x. not (test x)) ws ≡ without_first test ws
        → cond (not b) (w ∷ filter (λ x. not (test x)) ws) (filter (λ x. not (test x)) ws)
        ≡ cond b ws (w ∷ without_first test ws)
    by true e more = none_goes test ws (rest_fails test w ws only.0 e)
    by false e more = ap (λ rest. w ∷ rest) more

only_removed : (test : Standing → Bool) (ws : List Standing) (i : ℕ) (w : Standing)
    → OnlyOne test ws
    → slice_get ws i ≡ Some w
    → test w ≡ true
    → filter (λ x. not (test x)) ws ≡ remove ws i
only_removed test [] i w only is passes = absurd cc
only_removed test (x ∷ ws) zero w only is passes =
    let same : x ≡ w = cc in
    let here : test x ≡ true = subst (λ y. test y ≡ true) (sym same) passes in
    rw here (none_goes test ws (rest_fails test x ws only.0 here))
only_removed test (x ∷ ws) (suc i) w only is passes =
    let other = before_fails test x ws i w only.0 is passes in
    rw other (ap (λ rest. x ∷ rest) (only_removed test ws i w only.1 is passes))

-- the first that passes one test is the only one that passes another
found_each : (P : Standing → Type 0) (test : Standing → Bool) (ws : List Standing)
    (w : Standing)
    → AllByRecursion P ws
    → find test ws ≡ Some w
    → P w
found_each P test [] w h is = absurd cc
found_each P test (x ∷ ws) w h is = by (test x) is (found_each P test ws w h.1)
  where
    by : (b : Bool) → cond b (Some x) (find test ws) ≡ Some w → (find test ws ≡ Some w → P w) → P w
    by true g more = let same : x ≡ w = cc in subst P same h.0
    by false g more = more g

found_gone : (test other : Standing → Bool) (ws : List Standing) (w : Standing)
    → OnlyOne other ws
    → find test ws ≡ Some w
    → other w ≡ true
    → filter (λ x. not (other x)) ws ≡ without_first test ws
unfolding without_first
found_gone test other [] w only is passes = absurd cc
found_gone test other (x ∷ ws) w only is passes = by (test x) is (found_gone test other ws w only.1)
  where
    away : (b : Bool) → other x ≡ b → find test ws ≡ Some w → b ≡ false
    away false e g = refl
    away true e g =
        absurd (false≢true (sym (found_each (Only other x) test ws w only.0 g e) ∙ passes))

    by : (b : Bool)
        → cond b (Some x) (find test ws) ≡ Some w
        → (find test ws ≡ Some w
        → other w ≡ true
        → filter (λ y. not (other y)) ws ≡ without_first test ws)
        → cond (not (other x)) (x ∷ filter (λ y. not (other y)) ws) (filter (λ y. not (other y)) ws)
        ≡ cond b ws (x ∷ without_first test ws)
    by true g more =
        let same : x ≡ w = cc in
        let here : other x ≡ true = subst (λ y. other y ≡ true) (sym same) passes in
        rw here (none_goes other ws (rest_fails other x ws only.0 here))
    by false g more =
        let no : other x ≡ false = away (other x) refl g in
        rw no (ap (λ rest. x ∷ rest) (more g passes))

-- ---- names

abbrev pub NamesApart : Standing → Standing → Type 0
NamesApart x y = is_same_request (x.peer, x.token) (y.peer, y.token) ≡ false

named_only : (peer : Peer) (token : List ℕ) (ws : List Standing)
    → PairsByRecursion NamesApart ws
    → OnlyOne (is_named peer token) ws
named_only peer token ws apart =
    pairs_weaker NamesApart (Only (is_named peer token))
    (λ x y a same.
    subst (λ (name : RequestName). is_same_request name (y.peer, y.token) ≡ false)
    (sym ((is_same_request-Decides (peer, token) (x.peer, x.token)).0 same)) a) ws apart

-- ---- what stands

map_back : (octets : OctetsSent) (events : List Event) (transitions : List Transition)
    (xs : List Observer)
    → map (λ (x : Watching). x.observer) (map (watching octets events transitions) xs) ≡ xs
map_back octets events transitions [] = refl
map_back octets events transitions (x ∷ xs) =
    ap (λ rest. x ∷ rest) (map_back octets events transitions xs)

map_shown : (queries : ℕ → Query) (ws : List Standing)
    → map (λ (x : Watching). x.observer) (map (shown queries) ws) ≡ map (observer_of queries) ws
map_shown queries [] = refl
map_shown queries (w ∷ ws) = ap (λ rest. observer_of queries w ∷ rest) (map_shown queries ws)

-- the observers that stand are those of the table
pub observers-StandsFor : (queries : ℕ → Query) (octets : OctetsSent) (events : List Event)
    (transitions : List Transition) (ws : List Standing)
    → ObserversStandFor queries octets events transitions ws
    → observers events ≡ map (observer_of queries) ws
unfolding observers_standing
observers-StandsFor queries octets events transitions ws h =
    sym (map_back octets events transitions (observers events))
    ∙ (ap (map (λ (x : Watching). x.observer)) h.standing ∙ map_shown queries ws)

-- no two of the table have one name
names_apart : (queries : ℕ → Query) (octets : OctetsSent) (events : List Event)
    (transitions : List Transition) (ws : List Standing)
    → ObserversStandFor queries octets events transitions ws
    → PairsByRecursion NamesApart ws
names_apart queries octets events transitions ws h =
    pairs_unmap Apart (observer_of queries) ws
    (subst (PairsByRecursion Apart) (observers-StandsFor queries octets events transitions ws h)
    (observers-apart events))

map_length : {X Y : Type 0} (f : X → Y) (xs : List X) → length (map f xs) ≡ length xs
map_length f [] = refl
map_length f (x ∷ xs) = ap suc (map_length f xs)

pub length-StandsFor : (queries : ℕ → Query) (octets : OctetsSent) (events : List Event)
    (transitions : List Transition) (ws : List Standing)
    → ObserversStandFor queries octets events transitions ws
    → length (observers events) ≡ length ws
length-StandsFor queries octets events transitions ws h =
    ap length (observers-StandsFor queries octets events transitions ws h)
    ∙ map_length (observer_of queries) ws

-- an event by its note
noted_as : (e : Event) (n : Note) → e.note ≡ n → e ≡ event_at e.place e.moment e.word n
noted_as e n is = ap (event_at e.place e.moment e.word) is

-- functions that agree on each
map_agrees : {A B C : Type 0} (f : B → C) (g : A → B) (h : A → C)
    → ((x : A) → f (g x) ≡ h x)
    → (xs : List A)
    → map f (map g xs) ≡ map h xs
map_agrees f g h same [] = refl
map_agrees f g h same (x ∷ xs) = ap₂ (λ y ys. y ∷ ys) (same x) (map_agrees f g h same xs)

map_then : {A B C : Type 0} (f : B → C) (g : A → B) (xs : List A)
    → map (λ x. f (g x)) xs ≡ map f (map g xs)
map_then f g [] = refl
map_then f g (x ∷ xs) = ap (λ rest. f (g x) ∷ rest) (map_then f g xs)

-- a change of each of those that stand, by a change of each of the table
changes : (queries : ℕ → Query) (f : Watching → Watching) (g : Standing → Standing)
    → ((w : Standing) → f (shown queries w) ≡ shown queries (g w))
    → (xs : List Watching) (ws : List Standing)
    → xs ≡ map (shown queries) ws
    → map f xs ≡ map (shown queries) (map g ws)
changes queries f g same xs ws is =
    ap (map f) is
    ∙ (map_agrees f (shown queries) (λ w. shown queries (g w)) same ws
    ∙ map_then (shown queries) g ws)

filter_shown : (queries : ℕ → Query) (test : Watching → Bool) (ws : List Standing)
    → filter test (map (shown queries) ws)
    ≡ map (shown queries) (filter (λ w. test (shown queries w)) ws)
filter_shown queries test [] = refl
filter_shown queries test (w ∷ ws) = by (test (shown queries w)) (filter_shown queries test ws)
  where
    by : (b : Bool)
        → filter test (map (shown queries) ws)
        ≡ map (shown queries) (filter (λ x. test (shown queries x)) ws)
        → cond b (shown queries w ∷ filter test (map (shown queries) ws))
        (filter test (map (shown queries) ws))
        ≡ map (shown queries) (cond b (w ∷ filter (λ x. test (shown queries x)) ws)
        (filter (λ x. test (shown queries x)) ws))
    by true more = ap (λ rest. shown queries w ∷ rest) more
    by false more = more

-- ---- one is removed

gone_StandsFor : (queries : ℕ → Query) (octets : OctetsSent) (events : List Event)
    (transitions : List Transition) (e : Event) (peer : Peer) (token : List ℕ)
    (ws : List Standing)
    → e.note ≡ note.Unwatched peer token
    → ObserversStandFor queries octets events transitions ws
    → ObserversStandFor queries octets (e ∷ events) transitions
    (filter (λ w. not (is_named peer token w)) ws)
gone_StandsFor queries octets events transitions e peer token ws is h = record {
  standing =
      ap (λ x. observers_standing octets (x ∷ events) transitions)
      (noted_as e (note.Unwatched peer token) is)
      ∙ (standing-unwatched octets transitions e.place e.moment e.word peer token events
      ∙ (ap (filter (λ (x : Watching). not (is_same_request (peer, token) (name_of x.observer))))
      h.standing
      ∙ filter_shown queries
      (λ (x : Watching). not (is_same_request (peer, token) (name_of x.observer))) ws));
  awaited =
      from_pairs (filter (λ w. not (is_named peer token w)) ws)
      (pairs_filter AwaitsOne (λ w. not (is_named peer token w)) ws (to_pairs ws h.awaited));
}

pub dropped-StandsFor : (queries : ℕ → Query) (octets : OctetsSent) (events : List Event)
    (transitions : List Transition) (e : Event) (peer : Peer) (token : List ℕ)
    (ws : List Standing)
    → e.note ≡ note.Unwatched peer token
    → ObserversStandFor queries octets events transitions ws
    → ObserversStandFor queries octets (e ∷ events) transitions
    (without_first (is_named peer token) ws)
dropped-StandsFor queries octets events transitions e peer token ws is h =
    subst (ObserversStandFor queries octets (e ∷ events) transitions)
    (only_gone (is_named peer token) ws
    (named_only peer token ws (names_apart queries octets events transitions ws h)))
    (gone_StandsFor queries octets events transitions e peer token ws is h)

pub reset-StandsFor : (queries : ℕ → Query) (octets : OctetsSent) (events : List Event)
    (transitions : List Transition) (e : Event) (peer : Peer) (mid : ℕ) (ws : List Standing)
    (w : Standing)
    → find (has_notification peer mid) ws ≡ Some w
    → e.note ≡ note.Unwatched w.peer w.token
    → ObserversStandFor queries octets events transitions ws
    → ObserversStandFor queries octets (e ∷ events) transitions
    (without_first (has_notification peer mid) ws)
reset-StandsFor queries octets events transitions e peer mid ws w there is h =
    subst (ObserversStandFor queries octets (e ∷ events) transitions)
    (found_gone (has_notification peer mid) (is_named w.peer w.token) ws w
    (named_only w.peer w.token ws (names_apart queries octets events transitions ws h)) there
    (is_same_request-refl (w.peer, w.token)))
    (gone_StandsFor queries octets events transitions e w.peer w.token ws is h)

pub removed-StandsFor : (queries : ℕ → Query) (octets : OctetsSent) (events : List Event)
    (transitions : List Transition) (e : Event) (ws : List Standing) (i : ℕ) (w : Standing)
    → slice_get ws i ≡ Some w
    → e.note ≡ note.Unwatched w.peer w.token
    → ObserversStandFor queries octets events transitions ws
    → ObserversStandFor queries octets (e ∷ events) transitions (remove ws i)
removed-StandsFor queries octets events transitions e ws i w there is h =
    subst (ObserversStandFor queries octets (e ∷ events) transitions)
    (only_removed (is_named w.peer w.token) ws i w
    (named_only w.peer w.token ws (names_apart queries octets events transitions ws h)) there
    (is_same_request-refl (w.peer, w.token)))
    (gone_StandsFor queries octets events transitions e w.peer w.token ws is h)

-- ---- one changes

-- a change that starts no flight
pub record StartsNone (change : Standing → Standing) : Type 0 where
  pub peer : (w : Standing) → (change w).peer ≡ w.peer
  pub flight : (w : Standing) → is_some (change w).flight ≡ true → is_some w.flight ≡ true

pub awaits_kept : (change : Standing → Standing)
    → StartsNone change
    → (ws : List Standing)
    → EachAwaitsOne ws
    → EachAwaitsOne (map change ws)
awaits_kept change starts ws h =
    from_pairs (map change ws)
    (pairs_map (λ w. Unit {0}) AwaitsOne AwaitsOne change
    (λ x y _ _ a same fx fy. a (subst (λ p. is_same_peer y.peer p ≡ true) (starts.peer x)
    (subst (λ p. is_same_peer p (change x).peer ≡ true) (starts.peer y) same))
    (starts.flight x fx) (starts.flight y fy))
    ws (each_one (λ w. Unit {0}) (λ w. tt) ws) (to_pairs ws h))

where_starts_none : (test : Standing → Bool) (change : Standing → Standing)
    → StartsNone change
    → StartsNone (where_passes test change)
where_starts_none test change starts = record {
  peer = λ w. peer w (test w);
  flight = λ w. flight w (test w);
}
  where
    peer : (w : Standing) (b : Bool) → (cond b (change w) w).peer ≡ w.peer
    peer w true = starts.peer w
    peer w false = refl

    flight : (w : Standing) (b : Bool)
        → is_some (cond b (change w) w).flight ≡ true
        → is_some w.flight ≡ true
    flight w true h = starts.flight w h
    flight w false h = h

seen-StartsNone : StartsNone seen
seen-StartsNone = record { peer = λ w. refl; flight = λ w h. h }

pub unchanged-StandsFor : (queries : ℕ → Query) (octets : OctetsSent) (events : List Event)
    (transitions : List Transition) (e : Event) (ws : List Standing) (i : ℕ) (w : Standing)
    → slice_get ws i ≡ Some w
    → e.note ≡ note.Unchanged w.peer w.token
    → NoneLater e.place transitions
    → ObserversStandFor queries octets events transitions ws
    → ObserversStandFor queries octets (e ∷ events) transitions (changed_at seen i ws)
unchanged-StandsFor queries octets events transitions e ws i w there is low h =
    subst (ObserversStandFor queries octets (e ∷ events) transitions) at
    record {
      standing =
          ap (λ x. observers_standing octets (x ∷ events) transitions)
          (noted_as e (note.Unchanged w.peer w.token) is)
          ∙ (standing-unchanged octets transitions e.place e.moment e.word w.peer w.token events low
          ∙ changes queries (seen_for (w.peer, w.token)) (where_passes test seen)
          (λ x. by x (test x)) (observers_standing octets events transitions) ws h.standing);
      awaited =
          awaits_kept (where_passes test seen) (where_starts_none test seen seen-StartsNone) ws
          h.awaited;
    }
  where
    test : Standing → Bool
    test = is_named w.peer w.token

    at : map (where_passes test seen) ws ≡ changed_at seen i ws
    at =
        only_at test seen ws i w
        (named_only w.peer w.token ws (names_apart queries octets events transitions ws h))
        there (is_same_request-refl (w.peer, w.token))

    by : (x : Standing) (b : Bool)
        → cond b (parts (observer_of queries x) false (Some x.last) x.flight) (shown queries x)
        ≡ shown queries (cond b (seen x) x)
    by x true = refl
    by x false = refl

-- ---- a notification is built

message_same : (octets : OctetsSent) (e : Event) (peer : Peer) (s : Sent)
    → s.octets ≡ octets e.place peer s.mid
    → Resends e [] s.resend
    → message_formed octets e peer s.mid ≡ s
message_same octets e peer s same h =
    ap₂ (λ (o : List ℕ) (r : Retransmission). record { mid = s.mid; octets = o; resend = r })
    (sym same) kept
  where
    kept : retransmission e [] ≡ s.resend
    kept = rw (sym h.sent, sym h.wait, sym h.again) refl

pub formed-StandsFor : (queries : ℕ → Query) (octets : OctetsSent) (events : List Event)
    (transitions : List Transition) (e : Event) (ws : List Standing) (i : ℕ) (w : Standing)
    (s : Sent)
    (body : List ℕ)
    → slice_get ws i ≡ Some w
    → is_awaited w.peer ws ≡ false
    → e.note ≡ note.Formed w.peer w.token body (Some s.mid)
    → s.octets ≡ octets e.place w.peer s.mid
    → Resends e [] s.resend
    → NoneLater e.place transitions
    → ObserversStandFor queries octets events transitions ws
    → ObserversStandFor queries octets (e ∷ events) transitions (changed_at (notified s body) i ws)
formed-StandsFor queries octets events transitions e ws i w s body there free is same fresh low h =
    subst (ObserversStandFor queries octets (e ∷ events) transitions) at
    record {
      standing =
          ap (λ x. observers_standing octets (x ∷ events) transitions)
          (noted_as e (note.Formed w.peer w.token body (Some s.mid)) is)
          ∙ (standing-formed octets transitions e.place e.moment e.word w.peer w.token body
          (Some s.mid) events low
          ∙ changes queries (formed_for octets n (w.peer, w.token) body (Some s.mid))
          (where_passes test (notified s body)) (λ x. by x (test x) refl)
          (observers_standing octets events transitions) ws h.standing);
      awaited = awaits;
    }
  where
    test : Standing → Bool
    test = is_named w.peer w.token

    n : Event
    n = event_at e.place e.moment e.word (note.Formed w.peer w.token body (Some s.mid))

    apart : PairsByRecursion NamesApart ws
    apart = names_apart queries octets events transitions ws h

    at : map (where_passes test (notified s body)) ws ≡ changed_at (notified s body) i ws
    at =
        only_at test (notified s body) ws i w (named_only w.peer w.token ws apart) there
        (is_same_request-refl (w.peer, w.token))

    fresh_here : Resends n [] s.resend
    fresh_here = record { sent = fresh.sent; wait = fresh.wait; again = fresh.again }

    same_name : (x : Standing) → test x ≡ true → x.peer ≡ w.peer
    same_name x e' =
        sym (ap (λ (name : RequestName). name.0)
        ((is_same_request-Decides (w.peer, w.token) (x.peer, x.token)).0 e'))

    by : (x : Standing) (b : Bool)
        → test x ≡ b
        → cond b (parts (observer_of queries x) false (Some body)
        (Some (message_formed octets n x.peer s.mid))) (shown queries x)
        ≡ shown queries (cond b (notified s body x) x)
    by x true e' =
        ap (λ (m : Sent). parts (observer_of queries x) false (Some body) (Some m))
        (message_same octets n x.peer s
        (subst (λ p. s.octets ≡ octets e.place p s.mid) (sym (same_name x e')) same) fresh_here)
    by x false e' = refl

    -- an observer of the peer awaits nothing before
    Free : Standing → Type 0
    Free x = is_same_peer x.peer w.peer ≡ true → is_some x.flight ≡ true → ⊥

    frees : (xs : List Standing) → is_awaited w.peer xs ≡ false → AllByRecursion Free xs
    frees [] none = tt
    frees (x ∷ xs) none =
        let both =
        or_parts (is_same_peer x.peer w.peer && is_some x.flight) (is_awaited w.peer xs) none in (
          (λ p f. false≢true
              (sym both.0 ∙ and_from (is_same_peer x.peer w.peer) (is_some x.flight) p f)),
          frees xs
              both.1,
        )

    pair : (x y : Standing)
        → Free x
        → Free y
        → NamesApart x y × AwaitsOne x y
        → AwaitsOne (where_passes test (notified s body) x) (where_passes test (notified s body) y)
    pair x y fx fy both = cases (test x) (test y) refl refl
      where
        cases : (a b : Bool)
            → test x ≡ a
            → test y ≡ b
            → AwaitsOne (cond a (notified s body x) x) (cond b (notified s body y) y)
        cases true true ea eb p f g =
            false≢true (sym both.0
            ∙ subst (λ (name : RequestName). is_same_request name (y.peer, y.token) ≡ true)
            ((is_same_request-Decides (w.peer, w.token) (x.peer, x.token)).0 ea) eb)
        cases true false ea eb p f g =
            fy (subst (λ q. is_same_peer y.peer q ≡ true) (same_name x ea) p) g
        cases false true ea eb p f g =
            fx ((is_same_peer-Decides x.peer w.peer).1
            (sym ((is_same_peer-Decides y.peer x.peer).0 p) ∙ same_name y eb)) f
        cases false false ea eb p f g = both.1 p f g

    awaits : EachAwaitsOne (map (where_passes test (notified s body)) ws)
    awaits =
        from_pairs (map (where_passes test (notified s body)) ws)
        (pairs_map Free (λ x y. NamesApart x y × AwaitsOne x y) AwaitsOne
        (where_passes test (notified s body)) pair ws (frees ws free)
        (pairs_both NamesApart AwaitsOne (λ x y. NamesApart x y × AwaitsOne x y) (λ x y a b. (a, b))
        ws apart (to_pairs ws h.awaited)))

-- ---- acknowledgements and retransmissions

notified_as : (peer : Peer) (mid : ℕ) (w : Standing)
    → has_notification peer mid w ≡ true
    → (peer ≡ w.peer) × (is_some w.flight ≡ true)
notified_as peer mid w e =
    let both = and_parts (is_same_peer peer w.peer) (is_sent_as mid w.flight) e in
    ((is_same_peer-Decides peer w.peer).0 both.0, by w.flight both.1)
  where
    by : (o : Option Sent) → is_sent_as mid o ≡ true → is_some o ≡ true
    by None h = absurd (false≢true h)
    by (Some s) h = refl

notified_only : (peer : Peer) (mid : ℕ) (ws : List Standing)
    → EachAwaitsOne ws
    → OnlyOne (has_notification peer mid) ws
notified_only peer mid ws h =
    pairs_weaker AwaitsOne (Only (has_notification peer mid))
    (λ x y a e. by x y a e (has_notification peer mid y) refl) ws (to_pairs ws h)
  where
    by : (x y : Standing)
        → AwaitsOne x y
        → has_notification peer mid x ≡ true
        → (b : Bool)
        → has_notification peer mid y ≡ b
        → b ≡ false
    by x y a e false f = refl
    by x y a e true f =
        let one = notified_as peer mid x e in
        let other = notified_as peer mid y f in
        absurd (a ((is_same_peer-Decides y.peer x.peer).1 (sym other.0 ∙ one.0)) one.1 other.1)

landed-StartsNone : StartsNone landed
landed-StartsNone = record { peer = λ w. refl; flight = λ w h. absurd (false≢true h) }

pub landed-StandsFor : (queries : ℕ → Query) (octets : OctetsSent) (events : List Event)
    (transitions : List Transition) (e : Event) (peer : Peer) (mid : ℕ) (ws : List Standing)
    → e.note ≡ note.Landed peer mid
    → ObserversStandFor queries octets events transitions ws
    → ObserversStandFor queries octets (e ∷ events) transitions
    (changed_first (has_notification peer mid) landed ws)
landed-StandsFor queries octets events transitions e peer mid ws is h =
    subst (ObserversStandFor queries octets (e ∷ events) transitions)
    (only_first test landed ws (notified_only peer mid ws h.awaited))
    record {
      standing =
          ap (λ x. observers_standing octets (x ∷ events) transitions)
          (noted_as e (note.Landed peer mid) is)
          ∙ (standing-landed octets transitions e.place e.moment e.word peer mid events
          ∙ changes queries (landed_for peer mid) (where_passes test landed) (λ x. same x x.flight)
          (observers_standing octets events transitions) ws h.standing);
      awaited =
          awaits_kept (where_passes test landed) (where_starts_none test landed landed-StartsNone)
          ws h.awaited;
    }
  where
    test : Standing → Bool
    test = has_notification peer mid

    -- an observer by its flight
    with_flight : Standing → Option Sent → Standing
    with_flight x o = record x { flight = o }

    none : (x : Standing) (b : Bool)
        → shown queries (with_flight x None)
        ≡ shown queries (cond b (landed (with_flight x None)) (with_flight x None))
    none x true = refl
    none x false = refl

    some : (x : Standing) (s : Sent) (b : Bool)
        → parts (observer_of queries x) x.due (Some x.last) (cond b None (Some s))
        ≡ shown queries (cond b (landed (with_flight x (Some s))) (with_flight x (Some s)))
    some x s true = refl
    some x s false = refl

    same : (x : Standing) (o : Option Sent)
        → landed_for peer mid (shown queries (with_flight x o))
        ≡ shown queries (where_passes test landed (with_flight x o))
    same x None = none x (is_same_peer peer x.peer && false)
    same x (Some s) = some x s (is_same_peer peer x.peer && mid == s.mid)

timed_once : (now : ℕ) (s : Sent)
    → kept_due now s.resend ≡ again.Send
    → kept_of now (Some s) ≡ Some (sent_again now s)
timed_once now s sends = rw sends refl

pub again-StandsFor : (queries : ℕ → Query) (octets : OctetsSent) (events : List Event)
    (transitions : List Transition) (e : Event) (now : ℕ) (ws : List Standing) (i : ℕ)
    (w : Standing)
    (s : Sent)
    → slice_get ws i ≡ Some w
    → w.flight ≡ Some s
    → kept_due now s.resend ≡ again.Send
    → e.note ≡ note.Again w.peer s.mid
    → e.moment ≡ now
    → ObserversStandFor queries octets events transitions ws
    → ObserversStandFor queries octets (e ∷ events) transitions (changed_at (timed now) i ws)
again-StandsFor queries octets events transitions e now ws i w s there flies sends is when h =
    subst (ObserversStandFor queries octets (e ∷ events) transitions)
    (only_at test again_now ws i w (notified_only w.peer s.mid ws h.awaited) there passes
    ∙ timed_at ws i there)
    record {
      standing =
          ap (λ x. observers_standing octets (x ∷ events) transitions)
          (noted_as e (note.Again w.peer s.mid) is)
          ∙ (standing-again octets transitions e.place e.moment e.word w.peer s.mid events
          ∙ changes queries (again_for w.peer s.mid e.moment) (where_passes test again_now)
          (λ x. same x x.flight) (observers_standing octets events transitions) ws h.standing);
      awaited =
          awaits_kept (where_passes test again_now) (where_starts_none test again_now starts) ws
          h.awaited;
    }
  where
    test : Standing → Bool
    test = has_notification w.peer s.mid

    again_now : Standing → Standing
    again_now x = record x { flight = option_map (sent_again e.moment) x.flight }

    passes : test w ≡ true
    passes =
        and_from (is_same_peer w.peer w.peer) (is_sent_as s.mid w.flight) (is_same_peer-refl w.peer)
        (ap (is_sent_as s.mid) flies ∙ itself s.mid)
      where
        itself : (n : ℕ) → (n == n) ≡ true
        itself n = grind arith

    starts : StartsNone again_now
    starts = record { peer = λ x. refl; flight = λ x. by x.flight }
      where
        by : (o : Option Sent)
            → is_some (option_map (sent_again e.moment) o) ≡ true
            → is_some o ≡ true
        by None f = f
        by (Some m) f = refl

    timed_here : again_now w ≡ timed now w
    timed_here =
        ap (λ (o : Option Sent). record w { flight = o })
        (ap (option_map (sent_again e.moment)) flies
        ∙ (ap (λ m. Some (sent_again m s)) when
        ∙ (sym (timed_once now s sends) ∙ ap (kept_of now) (sym flies))))

    timed_at : (xs : List Standing) (j : ℕ)
        → slice_get xs j ≡ Some w
        → changed_at again_now j xs ≡ changed_at (timed now) j xs
    timed_at [] j is' = refl
    timed_at (x ∷ xs) zero is' =
        let here : x ≡ w = cc in
        ap (λ y. y ∷ xs) (ap again_now here ∙ (timed_here ∙ ap (timed now) (sym here)))
    timed_at (x ∷ xs) (suc j) is' = ap (λ rest. x ∷ rest) (timed_at xs j is')

    with_flight : Standing → Option Sent → Standing
    with_flight x o = record x { flight = o }

    none : (x : Standing) (b : Bool)
        → shown queries (with_flight x None)
        ≡ shown queries (cond b (again_now (with_flight x None)) (with_flight x None))
    none x true = refl
    none x false = refl

    some : (x : Standing) (m : Sent) (b : Bool)
        → parts (observer_of queries x) x.due (Some x.last)
        (Some (cond b (sent_again e.moment m) m))
        ≡ shown queries (cond b (again_now (with_flight x (Some m))) (with_flight x (Some m)))
    some x m true = refl
    some x m false = refl

    same : (x : Standing) (o : Option Sent)
        → again_for w.peer s.mid e.moment (shown queries (with_flight x o))
        ≡ shown queries (where_passes test again_now (with_flight x o))
    same x None = none x (is_same_peer w.peer x.peer && false)
    same x (Some m) = some x m (is_same_peer w.peer x.peer && s.mid == m.mid)

-- ---- one is added

none_named : (queries : ℕ → Query) (peer : Peer) (token : List ℕ) (ws : List Standing)
    → list_any (is_named peer token) ws ≡ false
    → list_any (λ (x : Observer). is_same_request (peer, token) (name_of x))
    (map (observer_of queries) ws)
    ≡ false
none_named queries peer token [] none = refl
none_named queries peer token (w ∷ ws) none =
    let both = or_parts (is_named peer token w) (list_any (is_named peer token) ws) none in
    rw both.0 (none_named queries peer token ws both.1)

pub added-StandsFor : (queries : ℕ → Query) (octets : OctetsSent) (events : List Event)
    (transitions : List Transition) (watched formed : Event) (ws : List Standing) (w : Standing)
    → list_any (is_named w.peer w.token) ws ≡ false
    → w.flight ≡ None
    → w.due ≡ false
    → watched.note ≡ note.Watched (observer_of queries w)
    → formed.note ≡ note.Formed w.peer w.token w.last None
    → NoneLater formed.place transitions
    → ObserversStandFor queries octets events transitions ws
    → ObserversStandFor queries octets (formed ∷ watched ∷ events) transitions (ws ++ w ∷ [])
added-StandsFor queries octets events transitions watched formed ws w new quiet calm is forms low
    h =
    record {
      standing =
          ap (λ x. observers_standing octets (x ∷ watched ∷ events) transitions)
          (noted_as formed (note.Formed w.peer w.token w.last None) forms)
          ∙ (standing-added octets transitions watched formed.place formed.moment formed.word
          (observer_of queries w) w.last events is
          (ap (list_any (λ (x : Observer). is_same_request (w.peer, w.token) (name_of x)))
          (observers-StandsFor queries octets events transitions ws h)
          ∙ none_named queries w.peer w.token ws new) low
          ∙ (ap₂ (λ xs (x : Watching). xs ++ x ∷ []) h.standing last
          ∙ sym (map-append (shown queries) ws (w ∷ []))));
      awaited =
          from_pairs (ws ++ w ∷ []) (pairs_push AwaitsOne ws w (to_pairs ws h.awaited)
          (each_one (λ x. AwaitsOne x w) (λ x p f g. false≢true (sym (ap is_some quiet) ∙ g))
          ws));
    }
  where
    last : added (observer_of queries w) w.last ≡ shown queries w
    last =
        ap₂ (λ (d : Bool) (o : Option Sent). parts (observer_of queries w) d (Some w.last) o)
        (sym calm) (sym quiet)

-- nobody, after nothing
pub empty-StandsFor : (queries : ℕ → Query) (octets : OctetsSent)
    → ObserversStandFor queries octets [] [] []
unfolding observers_standing observers
empty-StandsFor queries octets = record { standing = refl; awaited = tt }

-- ---- what is due

got_map : {X Y : Type 0} (f : X → Y) (xs : List X) (i : ℕ)
    → slice_get (map f xs) i ≡ option_map f (slice_get xs i)
got_map f [] i = refl
got_map f (x ∷ xs) zero = refl
got_map f (x ∷ xs) (suc i) = got_map f xs i

-- the observer with an index, in the table and by events
pub same_at : (queries : ℕ → Query) (octets : OctetsSent) (events : List Event)
    (transitions : List Transition) (ws : List Standing) (i : ℕ) (o : Observer) (w : Standing)
    → ObserversStandFor queries octets events transitions ws
    → slice_get (observers events) i ≡ Some o
    → slice_get ws i ≡ Some w
    → watching octets events transitions o ≡ shown queries w
unfolding observers_standing
same_at queries octets events transitions ws i o w h at there = by both
  where
    both : Some (watching octets events transitions o) ≡ Some (shown queries w)
    both =
        sym (got_map (watching octets events transitions) (observers events) i
        ∙ ap (option_map (watching octets events transitions)) at)
        ∙ (ap (λ xs. slice_get xs i) h.standing
        ∙ (got_map (shown queries) ws i ∙ ap (option_map (shown queries)) there))

    by : {x y : Watching} → Some x ≡ Some y → x ≡ y
    by e = cc

due_flight : (now : ℕ) (octets : OctetsSent) (peer : Peer) (f : Option Flight)
    → due_of now (option_map (notification_sent octets peer) f) ≡ notification_due now f
due_flight now octets peer None = refl
due_flight now octets peer (Some f) =
    kept_due-deadline now f.formed f.again (retransmission f.formed f.again)
    (record { sent = refl; wait = refl; again = refl })

pub due-StandsFor : (queries : ℕ → Query) (octets : OctetsSent) (events : List Event)
    (transitions : List Transition) (now : ℕ) (ws : List Standing) (i : ℕ) (o : Observer)
    (w : Standing)
    → ObserversStandFor queries octets events transitions ws
    → slice_get (observers events) i ≡ Some o
    → slice_get ws i ≡ Some w
    → due_of now w.flight ≡ notification_due now (flight o events)
unfolding waiting_notification
due-StandsFor queries octets events transitions now ws i o w h at there =
    ap (λ (x : Watching). due_of now x.waits)
    (sym (same_at queries octets events transitions ws i o w h at there))
    ∙ due_flight now octets o.peer (flight o events)

-- ---- what is not retransmitted

unsent : (now : ℕ) (w : Standing) → due_of now w.flight ≢ again.Send → timed now w ≡ w
unsent now w other = ap (λ (o : Option Sent). record w { flight = o }) (by w.flight other)
  where
    by : (o : Option Sent) → due_of now o ≢ again.Send → kept_of now o ≡ o
    by None h = refl
    by (Some s) h =
        ap (λ (r : Retransmission). Some (record s { resend = r }))
        (kept_after-unsent (kept_due now s.resend) now s.resend h)

-- a change of the one with an index that changes nothing
pub unsent-same : (now : ℕ) (ws : List Standing) (i : ℕ) (w : Standing)
    → slice_get ws i ≡ Some w
    → due_of now w.flight ≢ again.Send
    → changed_at (timed now) i ws ≡ ws
unsent-same now [] i w there other = absurd cc
unsent-same now (x ∷ ws) zero w there other =
    let here : x ≡ w = cc in
    ap (λ y. y ∷ ws) (ap (timed now) here ∙ (unsent now w other ∙ sym here))
unsent-same now (x ∷ ws) (suc i) w there other =
    ap (λ rest. x ∷ rest) (unsent-same now ws i w there other)

-- what is due of the observer with an index is what is due of its notification
pub sends-at : (now : ℕ) (w : Standing) (s : Sent) (due : Again)
    → w.flight ≡ Some s
    → due ≡ due_of now w.flight
    → due ≡ again.Send
    → kept_due now s.resend ≡ again.Send
sends-at now w s due flies is sends = sym (is ∙ ap (due_of now) flies) ∙ sends
