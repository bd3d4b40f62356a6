-- Which observers are found by a name or by a notification: by the table, and by the events that it
-- stands for.
use Rattle.std.proofs.Common.{
  ◌≡◌,
  ℕ,
  zero,
  suc,
  ◌==◌,
  Bool,
  true,
  false,
  ◌&&◌,
  ◌||◌,
  cond,
  List,
  [],
  ◌∷◌,
  ◌++◌,
  length,
  map,
  filter,
  find,
  slice_get,
  Option,
  Some,
  None,
  is_some,
  option_map,
  refl,
  sym,
  ap,
  ap₂,
  ◌∙◌,
  eqb-true,
}
use Rattle.std.specs.List.{AllByRecursion, remove}
use Rattle.std.proofs.lemmas.Bool.{false≢true, and_parts}
use Rattle.rd_base.specs.declared.peers.Peer.{Peer}
use Rattle.rd_base.specs.declared.queries.Query.{Query}
use Rattle.rd_base.specs.Firsts.{changed_first, without_first}
use Rattle.rd_base.proofs.lemmas.Each.{each_weaker}
use Rattle.rd_base.proofs.lemmas.Filters.{filter_none}
use Rattle.rd_base.proofs.lemmas.Numbers.{eqb-refl}
use Rattle.event_model.specs.declared.notes.Observer.{Observer}
use Rattle.event_model.specs.Same.{RequestName, is_same_peer, is_same_request}
use Rattle.event_model.specs.Events.{Event}
use Rattle.event_model.specs.Observers.{observers, is_observer}
use Rattle.event_model.specs.Flights.{
  Sent,
  OctetsSent,
  Flight,
  flight,
  notification_sent,
  waiting_notification,
}
use Rattle.event_model.specs.Due.{Transition, Watching as Shown, watching, observers_standing}
use Rattle.event_model.proofs.SameLaws.{is_same_peer-Decides, is_same_request-Decides}
use Rattle.journal_model.specs.EmptyMessages.{is_flight_of, waited_for}
use Rattle.observers.specs.Standing.{Standing, is_named, is_sent_as, has_notification, changed_at}
use Rattle.observers.specs.ObserverEvents.{
  observer_of,
  shown,
  AwaitsOne,
  EachAwaitsOne,
  ObserversStandFor,
}

-- ---- lists

-- a list, and what is left of it without one of its elements
pub record Cut {X : Type 0} (xs left : List X) (x : X) : Type 0 where
  pub front : List X
  pub back : List X
  pub whole : xs ≡ front ++ x ∷ back
  pub rest : left ≡ front ++ back

-- without the first that passes a test
pub cut_first : {X : Type 0} (test : X → Bool) (xs : List X) (x : X)
    → find test xs ≡ Some x
    → Cut xs (without_first test xs) x
unfolding without_first
cut_first test [] x is = absurd cc
cut_first {X} test (y ∷ ys) x is = by (test y) is (cut_first test ys x)
  where
    by : (b : Bool)
        → cond b (Some y) (find test ys) ≡ Some x
        → (find test ys ≡ Some x → Cut ys (without_first test ys) x)
        → Cut (y ∷ ys) (cond b ys (y ∷ without_first test ys)) x
    by true g more = let same : y ≡ x = cc in record {
      front = [];
      back = ys;
      whole = ap (λ (z : X). z ∷ ys) same;
      rest = refl;
    }
    by false g more = let c = more g in record {
      front = y ∷ c.front;
      back = c.back;
      whole = ap (λ (zs : List X). y ∷ zs) c.whole;
      rest = ap (λ (zs : List X). y ∷ zs) c.rest;
    }

-- without the one with an index
pub cut_at : {X : Type 0} (xs : List X) (i : ℕ) (x : X)
    → slice_get xs i ≡ Some x
    → Cut xs (remove xs i) x
cut_at [] i x is = absurd cc
cut_at {X} (y ∷ ys) zero x is = let same : y ≡ x = cc in record {
  front = [];
  back = ys;
  whole = ap (λ (z : X). z ∷ ys) same;
  rest = refl;
}
cut_at {X} (y ∷ ys) (suc i) x is =
    let c = cut_at ys i x is in
    record {
      front = y ∷ c.front;
      back = c.back;
      whole = ap (λ (zs : List X). y ∷ zs) c.whole;
      rest = ap (λ (zs : List X). y ∷ zs) c.rest;
    }

-- where none passes, none changes
pub changed_first-unfound : {X : Type 0} (test : X → Bool) (change : X → X) (xs : List X)
    → find test xs ≡ None
    → changed_first test change xs ≡ xs
unfolding changed_first
changed_first-unfound test change [] is = refl
changed_first-unfound {X} test change (x ∷ xs) is =
    by (test x) is (changed_first-unfound test change xs)
  where
    by : (b : Bool)
        → cond b (Some x) (find test xs) ≡ None
        → (find test xs ≡ None → changed_first test change xs ≡ xs)
        → cond b (change x ∷ xs) (x ∷ changed_first test change xs) ≡ x ∷ xs
    by true g more = absurd cc
    by false g more = ap (λ (ys : List X). x ∷ ys) (more g)

-- what holds of each, and of what is changed
pub each_changed_first : {X : Type 0} (P : X → Type 0) (test : X → Bool) (change : X → X)
    → ((x : X) → P x → P (change x))
    → (xs : List X)
    → AllByRecursion P xs
    → AllByRecursion P (changed_first test change xs)
unfolding changed_first
each_changed_first P test change still [] h = tt
each_changed_first P test change still (x ∷ xs) h =
    by (test x) (each_changed_first P test change still xs h.1)
  where
    by : (b : Bool)
        → AllByRecursion P (changed_first test change xs)
        → AllByRecursion P (cond b (change x ∷ xs) (x ∷ changed_first test change xs))
    by true more = (still x h.0, h.1)
    by false more = (h.0, more)

pub each_changed_at : (P : Standing → Type 0) (change : Standing → Standing)
    → ((x : Standing) → P x → P (change x))
    → (i : ℕ) (xs : List Standing)
    → AllByRecursion P xs
    → AllByRecursion P (changed_at change i xs)
each_changed_at P change still i [] h = tt
each_changed_at P change still zero (x ∷ xs) h = (still x h.0, h.1)
each_changed_at P change still (suc i) (x ∷ xs) h = (h.0, each_changed_at P change still i xs h.1)

-- and what is the same of each is the same of all
pub map-changed_first : {X Y : Type 0} (f : X → Y) (test : X → Bool) (change : X → X)
    → ((x : X) → f (change x) ≡ f x)
    → (xs : List X)
    → map f (changed_first test change xs) ≡ map f xs
unfolding changed_first
map-changed_first f test change same [] = refl
map-changed_first {X} {Y} f test change same (x ∷ xs) =
    by (test x) (map-changed_first f test change same xs)
  where
    by : (b : Bool)
        → map f (changed_first test change xs) ≡ map f xs
        → map f (cond b (change x ∷ xs) (x ∷ changed_first test change xs)) ≡ map f (x ∷ xs)
    by true more = ap (λ (y : Y). y ∷ map f xs) (same x)
    by false more = ap (λ (ys : List Y). f x ∷ ys) more

pub map-changed_at : {Y : Type 0} (f : Standing → Y) (change : Standing → Standing)
    → ((x : Standing) → f (change x) ≡ f x)
    → (i : ℕ) (xs : List Standing)
    → map f (changed_at change i xs) ≡ map f xs
map-changed_at f change same i [] = refl
map-changed_at {Y} f change same zero (x ∷ xs) = ap (λ (y : Y). y ∷ map f xs) (same x)
map-changed_at {Y} f change same (suc i) (x ∷ xs) =
    ap (λ (ys : List Y). f x ∷ ys) (map-changed_at f change same i xs)

pub length-changed_at : (change : Standing → Standing) (i : ℕ) (xs : List Standing)
    → length (changed_at change i xs) ≡ length xs
length-changed_at change i [] = refl
length-changed_at change zero (x ∷ xs) = refl
length-changed_at change (suc i) (x ∷ xs) = ap suc (length-changed_at change i xs)

-- the one that was found, or none
abbrev pub in_list : {X : Type 0} → Option X → List X
in_list None = []
in_list (Some x) = x ∷ []

-- ---- tests, turned

peer_turned : (a b : Peer) → is_same_peer a b ≡ is_same_peer b a
peer_turned a b = by (is_same_peer a b) (is_same_peer b a) refl refl
  where
    by : (x y : Bool) → is_same_peer a b ≡ x → is_same_peer b a ≡ y → x ≡ y
    by true true e f = refl
    by false false e f = refl
    by true false e f =
        absurd (false≢true
        (sym f ∙ (is_same_peer-Decides b a).1 (sym ((is_same_peer-Decides a b).0 e))))
    by false true e f =
        absurd (false≢true
        (sym e ∙ (is_same_peer-Decides a b).1 (sym ((is_same_peer-Decides b a).0 f))))

pub request_turned : (a b : RequestName) → is_same_request a b ≡ is_same_request b a
request_turned a b = by (is_same_request a b) (is_same_request b a) refl refl
  where
    by : (x y : Bool) → is_same_request a b ≡ x → is_same_request b a ≡ y → x ≡ y
    by true true e f = refl
    by false false e f = refl
    by true false e f =
        absurd (false≢true
        (sym f ∙ (is_same_request-Decides b a).1 (sym ((is_same_request-Decides a b).0 e))))
    by false true e f =
        absurd (false≢true
        (sym e ∙ (is_same_request-Decides a b).1 (sym ((is_same_request-Decides b a).0 f))))

number_turned : (m n : ℕ) → (m == n) ≡ (n == m)
number_turned m n = by (m == n) (n == m) refl refl
  where
    by : (x y : Bool) → (m == n) ≡ x → (n == m) ≡ y → x ≡ y
    by true true e f = refl
    by false false e f = refl
    by true false e f =
        absurd (false≢true (sym f ∙ (ap (λ k. n == k) (eqb-true m n e) ∙ eqb-refl n)))
    by false true e f =
        absurd (false≢true (sym e ∙ (ap (λ k. m == k) (eqb-true n m f) ∙ eqb-refl m)))

-- ---- who is waited for

-- by the table, among those of the events
flight_as : (octets : OctetsSent) (peer : Peer) (mid : ℕ) (f : Option Flight)
    → is_flight_of mid f ≡ is_sent_as mid (option_map (notification_sent octets peer) f)
flight_as octets peer mid None = refl
flight_as octets peer mid (Some f) = number_turned f.mid mid

waited_in : (queries : ℕ → Query) (octets : OctetsSent) (past : List Event) (seen : List Transition)
    (ws : List Standing) (peer : Peer) (mid : ℕ)
    → ObserversStandFor queries octets past seen ws
    → waited_for peer mid past ≡ map (observer_of queries) (filter (has_notification peer mid) ws)
unfolding observers_standing waiting_notification
waited_in queries octets past seen ws peer mid h = each (observers past) ws h.standing
  where
    one : (o : Observer) (x : Standing)
        → watching octets past seen o ≡ shown queries x
        → (is_same_peer o.peer peer && is_flight_of mid (flight o past))
        ≡ has_notification peer mid x
    one o x here =
        let named = ap (λ (y : Shown). y.observer.peer) here in
        let waits = ap (λ (y : Shown). y.waits) here in
        ap₂ (λ a b. a && b) (ap (λ p. is_same_peer p peer) named ∙ peer_turned x.peer peer)
        (flight_as octets o.peer mid (flight o past) ∙ ap (is_sent_as mid) waits)

    step : (a b : Bool) (o : Observer) (x : Standing) (os : List Observer) (xs : List Observer)
        → a ≡ b
        → o ≡ observer_of queries x
        → os ≡ xs
        → cond a (o ∷ os) os ≡ cond b (observer_of queries x ∷ xs) xs
    step true true o x os xs e same more =
        ap₂ (λ (y : Observer) (ys : List Observer). y ∷ ys) same more
    step false false o x os xs e same more = more
    step true false o x os xs e same more = absurd (false≢true (sym e))
    step false true o x os xs e same more = absurd (false≢true e)

    mapped : (b : Bool) (x : Standing) (xs : List Standing)
        → cond b (observer_of queries x ∷ map (observer_of queries) xs)
        (map (observer_of queries) xs)
        ≡ map (observer_of queries) (cond b (x ∷ xs) xs)
    mapped true x xs = refl
    mapped false x xs = refl

    each : (os : List Observer) (xs : List Standing)
        → map (watching octets past seen) os ≡ map (shown queries) xs
        → filter (λ o. is_same_peer o.peer peer && is_flight_of mid (flight o past)) os
        ≡ map (observer_of queries) (filter (has_notification peer mid) xs)
    each [] [] e = refl
    each [] (x ∷ xs) e = absurd cc
    each (o ∷ os) [] e = absurd cc
    each (o ∷ os) (x ∷ xs) e =
        let here : watching octets past seen o ≡ shown queries x = cc in
        let rest : map (watching octets past seen) os ≡ map (shown queries) xs = cc in
        step (is_same_peer o.peer peer && is_flight_of mid (flight o past))
        (has_notification peer mid x)
        o x
        (filter (λ y. is_same_peer y.peer peer && is_flight_of mid (flight y past)) os)
        (map (observer_of queries) (filter (has_notification peer mid) xs)) (one o x here)
        (ap (λ (y : Shown). y.observer) here) (each os xs rest)
        ∙ mapped (has_notification peer mid x) x (filter (has_notification peer mid) xs)

-- at most one
only_one : (peer : Peer) (mid : ℕ) (ws : List Standing)
    → EachAwaitsOne ws
    → filter (has_notification peer mid) ws ≡ in_list (find (has_notification peer mid) ws)
only_one peer mid [] h = refl
only_one peer mid (w ∷ ws) h = by (has_notification peer mid w) refl (only_one peer mid ws h.1)
  where
    flies : (f : Option Sent) → is_sent_as mid f ≡ true → is_some f ≡ true
    flies None e = absurd (false≢true e)
    flies (Some s) e = refl

    other : (x : Standing) (b : Bool)
        → has_notification peer mid w ≡ true
        → AwaitsOne w x
        → has_notification peer mid x ≡ b
        → b ≡ false
    other x false e a g = refl
    other x true e a g =
        let mine = and_parts (is_same_peer peer w.peer) (is_sent_as mid w.flight) e in
        let its = and_parts (is_same_peer peer x.peer) (is_sent_as mid x.flight) g in
        absurd (a ((is_same_peer-Decides x.peer w.peer).1
        (sym ((is_same_peer-Decides peer x.peer).0 its.0)
        ∙ (is_same_peer-Decides peer w.peer).0 mine.0)) (flies w.flight mine.1)
        (flies x.flight its.1))

    by : (b : Bool)
        → has_notification peer mid w ≡ b
        → filter (has_notification peer mid) ws ≡ in_list (find (has_notification peer mid) ws)
        → cond b (w ∷ filter (has_notification peer mid) ws) (filter (has_notification peer mid) ws)
        ≡ in_list (cond b (Some w) (find (has_notification peer mid) ws))
    by true e more =
        ap (λ (xs : List Standing). w ∷ xs)
        (filter_none (has_notification peer mid) ws
        (each_weaker (AwaitsOne w) (λ x. has_notification peer mid x ≡ false)
        (λ x a. other x (has_notification peer mid x) e a refl) ws h.0))
    by false e more = more

-- The observers that a message with this Message ID waits for, by the events, are the one that the
-- table finds.
pub waited_for-StandsFor : (queries : ℕ → Query) (octets : OctetsSent) (past : List Event)
    (seen : List Transition) (ws : List Standing) (peer : Peer) (mid : ℕ)
    → ObserversStandFor queries octets past seen ws
    → waited_for peer mid past ≡ map (observer_of queries)
    (in_list (find (has_notification peer mid) ws))
waited_for-StandsFor queries octets past seen ws peer mid h =
    waited_in queries octets past seen ws peer mid h
    ∙ ap (map (observer_of queries)) (only_one peer mid ws h.awaited)

-- ---- who has a name

-- An observer of this peer and token stands exactly where the table finds one.
pub is_observer-found : (queries : ℕ → Query) (peer : Peer) (token : List ℕ)
    (ws : List Standing)
    → is_observer (peer, token) (map (observer_of queries) ws)
    ≡ is_some (find (is_named peer token) ws)
is_observer-found queries peer token [] = refl
is_observer-found queries peer token (w ∷ ws) =
    ap₂ (λ a b. a || b) (request_turned (w.peer, w.token) (peer, token))
    (is_observer-found queries peer token ws)
    ∙ by (is_named peer token w) (find (is_named peer token) ws)
  where
    by : (b : Bool) (o : Option Standing) → (b || is_some o) ≡ is_some (cond b (Some w) o)
    by true o = refl
    by false o = refl
