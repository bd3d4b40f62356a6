-- The observers that stand after a note that is about them: what of each changes, and who is added
-- or removed.
use Rattle.std.proofs.Common.{
  if◌then◌else◌,
  ◌≡◌,
  ℕ,
  ◌+◌,
  ◌*◌,
  ◌^◌,
  ◌≤◌,
  ◌==◌,
  zero,
  suc,
  Bool,
  true,
  false,
  not,
  ◌&&◌,
  ◌||◌,
  cond,
  List,
  [],
  ◌∷◌,
  ◌++◌,
  map,
  filter,
  length,
  Option,
  Some,
  None,
  option_map,
  option_and_then,
  nat_lt,
  refl,
  sym,
  ap,
  ap₂,
  ◌∙◌,
  append-nil,
  arith,
}
use Rattle.std.specs.List.{AllByRecursion, list_any}
use Rattle.std.proofs.Math.Nat.{pow-suc, mul_assoc}
use Rattle.std.proofs.lemmas.Bool.{or_parts}
use Rattle.std.proofs.lemmas.List.{map-append}
use Rattle.std.proofs.lemmas.Bool.Decides.{nat_tests}
use Rattle.rd_base.specs.declared.peers.Peer.{Peer}
use Rattle.rd_base.proofs.lemmas.Filters.{filter_all}
use Rattle.rd_base.proofs.lemmas.Each.{each_one}
use Rattle.event_model.specs.declared.notes.Note.{Note}
use Rattle.event_model.specs.declared.notes.Note.TheVariants as note
use Rattle.event_model.specs.declared.notes.Observer.{Observer}
use Rattle.event_model.specs.Same.{RequestName, is_same_peer, is_same_request}
use Rattle.event_model.specs.Events.{Event, last_event, has_event, events_since, last_said}
use Rattle.event_model.specs.Observers.{name_of, observers, last_body_formed}
use Rattle.event_model.specs.Flights.{
  Retransmission,
  Sent,
  OctetsSent,
  Flight,
  first_wait,
  moment_of_last,
  retransmission,
  is_forming_for,
  is_landing_of,
  is_again_of,
  notification_mid,
  flight_after,
  flight,
  notification_sent,
  waiting_notification,
}
use Rattle.event_model.specs.Due.{
  Transition,
  Watching,
  is_change_of,
  is_looking_for,
  is_changed_since,
  is_due,
  watching,
  observers_standing,
}
use Rattle.event_model.proofs.NotedLaws.{event_at}
use Rattle.event_model.proofs.SameLaws.{is_same_request-refl}

-- ---- lists

all_pass : {A : Type 0} (xs : List A) → filter (λ x. true) xs ≡ xs
all_pass xs = filter_all (λ x. true) xs (each_one (λ x. true ≡ true) (λ x. refl) xs)

map_each : {A B C : Type 0} (f : A → C) (g : B → C) (h : A → B)
    → ((x : A) → f x ≡ g (h x))
    → (xs : List A)
    → map f xs ≡ map g (map h xs)
map_each f g h same [] = refl
map_each f g h same (x ∷ xs) = ap₂ (λ y ys. y ∷ ys) (same x) (map_each f g h same xs)

filter_map_each : {A B : Type 0} (f : A → B) (test : B → Bool) (xs : List A)
    → map f (filter (λ x. test (f x)) xs) ≡ filter test (map f xs)
filter_map_each f test [] = refl
filter_map_each f test (x ∷ xs) = by (test (f x)) (filter_map_each f test xs)
  where
    by : (b : Bool)
        → map f (filter (λ y. test (f y)) xs) ≡ filter test (map f xs)
        → map f (cond b (x ∷ filter (λ y. test (f y)) xs) (filter (λ y. test (f y)) xs))
        ≡ cond b (f x ∷ filter test (map f xs)) (filter test (map f xs))
    by true more = ap (λ ys. f x ∷ ys) more
    by false more = more

-- an observer that stands, by its parts
abbrev pub parts : Observer → Bool → Option (List ℕ) → Option Sent → Watching
parts o due body waits = record { observer = o; due = due; last_body = body; waits = waits }

same_parts : (o : Observer) (d d' : Bool) (b b' : Option (List ℕ)) (w w' : Option Sent)
    → d ≡ d'
    → b ≡ b'
    → w ≡ w'
    → parts o d b w ≡ parts o d' b' w'
same_parts o d d' b b' w w' p q r = rw (p, q, r) refl

-- no transition is later
none_later : (place : ℕ) (test : Transition → Bool) (seen : List Transition)
    → AllByRecursion (λ t. t.place ≤ place) seen
    → list_any test (filter (λ t. nat_lt place t.place) seen) ≡ false
none_later place test [] h = refl
none_later place test (t ∷ seen) h =
    let low = h.0 in
    let not_after : nat_lt place t.place ≡ false = grind (arith, nat_tests, low) in
    rw not_after (none_later place test seen h.1)

-- ---- one of the observers, after a note

-- it is removed, and others are as they were
pub standing-unwatched : (octets : OctetsSent) (seen : List Transition) (place moment word : ℕ)
    (peer : Peer) (token : List ℕ) (events : List Event)
    → observers_standing octets (event_at place moment word (note.Unwatched peer token) ∷ events)
    seen
    ≡ filter (λ x. not (is_same_request (peer, token) (name_of x.observer)))
    (observers_standing octets events seen)
unfolding observers_standing observers last_body_formed last_said is_due waiting_notification flight
    events_since
standing-unwatched octets seen place moment word peer token events =
    ap (map (watching octets events seen)) (append-nil
    (filter (λ o. not (is_same_request (peer, token) (name_of o))) (observers events)))
    ∙ filter_map_each (watching octets events seen)
    (λ x. not (is_same_request (peer, token) (name_of x.observer))) (observers events)

-- what was last built for an observer, as it waits
abbrev pub message_formed : OctetsSent → Event → Peer → ℕ → Sent
message_formed octets e peer mid = record {
  mid = mid;
  octets = octets e.place peer mid;
  resend = retransmission e [];
}

-- an observer for which a body was built
abbrev pub formed_for : OctetsSent → Event → RequestName → List ℕ → Option ℕ → Watching → Watching
formed_for octets e name body mid x =
    if is_same_request name (name_of x.observer)
    then parts x.observer false (Some body)
    (option_map (message_formed octets e x.observer.peer) mid)
    else x

watching-formed : (octets : OctetsSent) (seen : List Transition) (place moment word : ℕ)
    (peer : Peer) (token body : List ℕ) (mid : Option ℕ) (events : List Event) (o : Observer)
    → AllByRecursion (λ t. t.place ≤ place) seen
    → watching octets (event_at place moment word (note.Formed peer token body mid) ∷ events) seen o
    ≡ formed_for octets (event_at place moment word (note.Formed peer token body mid)) (peer, token)
    body mid (watching octets events seen o)
unfolding last_body_formed last_said is_due waiting_notification flight events_since
watching-formed octets seen place moment word peer token body mid events o low =
    by (is_same_request (peer, token) (name_of o)) refl
  where
    e : Event
    e = event_at place moment word (note.Formed peer token body mid)

    message : (m : Option ℕ)
        → option_map (notification_sent octets o.peer)
        (option_and_then (flight_after o.peer e []) m)
        ≡ option_map (message_formed octets e o.peer) m
    message None = refl
    message (Some n) = refl

    by : (b : Bool) → is_same_request (peer, token) (name_of o) ≡ b
        → watching octets (e ∷ events) seen o
        ≡ formed_for octets e (peer, token) body mid (watching octets events seen o)
    by true same =
        rw same (same_parts o
        (list_any (is_change_of o.query) (filter (λ t. nat_lt place t.place) seen)) false
        (Some body) (Some body)
        (option_map (notification_sent octets o.peer)
        (option_and_then (flight_after o.peer e []) mid))
        (option_map (message_formed octets e o.peer) mid)
        (none_later place (is_change_of o.query) seen low) refl (message mid))
    by false same = rw same refl

pub standing-formed : (octets : OctetsSent) (seen : List Transition) (place moment word : ℕ)
    (peer : Peer) (token body : List ℕ) (mid : Option ℕ) (events : List Event)
    → AllByRecursion (λ t. t.place ≤ place) seen
    → observers_standing octets
    (event_at place moment word (note.Formed peer token body mid) ∷ events) seen
    ≡ map (formed_for octets (event_at place moment word (note.Formed peer token body mid))
    (peer, token) body mid) (observers_standing octets events seen)
unfolding observers_standing observers
standing-formed octets seen place moment word peer token body mid events low =
    ap (map (watching octets (e ∷ events) seen))
    (append-nil (filter (λ o. true) (observers events)) ∙ all_pass (observers events))
    ∙ map_each (watching octets (e ∷ events) seen) (formed_for octets e (peer, token) body mid)
    (watching octets events seen)
    (λ o. watching-formed octets seen place moment word peer token body mid events o low)
    (observers events)
  where
    e : Event
    e = event_at place moment word (note.Formed peer token body mid)

-- an observer whose listing was found unchanged
abbrev pub seen_for : RequestName → Watching → Watching
seen_for name x =
    if is_same_request name (name_of x.observer)
    then parts x.observer false x.last_body x.waits
    else x

watching-unchanged : (octets : OctetsSent) (seen : List Transition) (place moment word : ℕ)
    (peer : Peer) (token : List ℕ) (events : List Event) (o : Observer)
    → AllByRecursion (λ t. t.place ≤ place) seen
    → watching octets (event_at place moment word (note.Unchanged peer token) ∷ events) seen o
    ≡ seen_for (peer, token) (watching octets events seen o)
unfolding last_body_formed last_said is_due waiting_notification flight events_since
watching-unchanged octets seen place moment word peer token events o low =
    by (is_same_request (peer, token) (name_of o)) refl
  where
    by : (b : Bool) → is_same_request (peer, token) (name_of o) ≡ b
        → watching octets (event_at place moment word (note.Unchanged peer token) ∷ events) seen o
        ≡ seen_for (peer, token) (watching octets events seen o)
    by true same =
        rw same (ap (λ d.
        parts o d (last_body_formed (name_of o) events)
        (waiting_notification octets events o))
        (none_later place (is_change_of o.query) seen low))
    by false same = rw same refl

pub standing-unchanged : (octets : OctetsSent) (seen : List Transition) (place moment word : ℕ)
    (peer : Peer) (token : List ℕ) (events : List Event)
    → AllByRecursion (λ t. t.place ≤ place) seen
    → observers_standing octets (event_at place moment word (note.Unchanged peer token) ∷ events)
    seen
    ≡ map (seen_for (peer, token)) (observers_standing octets events seen)
unfolding observers_standing observers
standing-unchanged octets seen place moment word peer token events low =
    ap (map (watching octets (e ∷ events) seen))
    (append-nil (filter (λ o. true) (observers events)) ∙ all_pass (observers events))
    ∙ map_each (watching octets (e ∷ events) seen) (seen_for (peer, token))
    (watching octets events seen)
    (λ o. watching-unchanged octets seen place moment word peer token events o low)
    (observers events)
  where
    e : Event
    e = event_at place moment word (note.Unchanged peer token)

-- ---- flights

-- a flight after an event that builds nothing for its observer: an acknowledgement of it ends it,
-- and a retransmission of it counts
abbrev pub flight_next : Peer → Event → Flight → Option Flight
flight_next peer e f =
    if is_landing_of peer f.mid e.note then None
    else Some (if is_again_of peer f.mid e.note then record f { again = e ∷ f.again } else f)

flight_after-more : (peer : Peer) (formed e : Event) (later : List Event) (mid : ℕ)
    → flight_after peer formed (e ∷ later) mid
    ≡ option_and_then (flight_next peer e) (flight_after peer formed later mid)
flight_after-more peer formed e later mid = by (has_event (is_landing_of peer mid) later)
  where
    again : List Event
    again = filter (λ x. is_again_of peer mid x.note) later

    of : List Event → Flight
    of xs = record { mid = mid; formed = formed; again = xs }

    ended : (l : Bool) (f : Flight) → cond (l || true) None (Some f) ≡ None
    ended true f = refl
    ended false f = refl

    goes_on : (l a : Bool)
        → cond (l || false) None (Some (of (cond a (e ∷ again) again)))
        ≡ cond l None (Some (cond a (of (e ∷ again)) (of again)))
    goes_on true a = refl
    goes_on false true = refl
    goes_on false false = refl

    by : (h : Bool)
        → cond (is_landing_of peer mid e.note || h) None
        (Some (of (cond (is_again_of peer mid e.note) (e ∷ again) again)))
        ≡ option_and_then (flight_next peer e) (cond h None (Some (of again)))
    by true =
        ended (is_landing_of peer mid e.note)
        (of (cond (is_again_of peer mid e.note) (e ∷ again) again))
    by false = goes_on (is_landing_of peer mid e.note) (is_again_of peer mid e.note)

pub flight-more : (o : Observer) (e : Event) (events : List Event)
    → is_forming_for (name_of o) e.note ≡ false
    → flight o (e ∷ events) ≡ option_and_then (flight_next o.peer e) (flight o events)
unfolding flight events_since
flight-more o e events other = rw other (by (last_event (is_forming_for (name_of o)) events))
  where
    later : List Event
    later = events_since (is_forming_for (name_of o)) events

    of : (formed : Event) (m : Option ℕ)
        → option_and_then (flight_after o.peer formed (e ∷ later)) m
        ≡ option_and_then (flight_next o.peer e)
        (option_and_then (flight_after o.peer formed later) m)
    of formed None = refl
    of formed (Some mid) = flight_after-more o.peer formed e later mid

    by : (x : Option Event)
        → option_and_then (λ (formed : Event).
        option_and_then (flight_after o.peer formed (e ∷ later)) (notification_mid formed.note)) x
        ≡ option_and_then (flight_next o.peer e) (option_and_then (λ (formed : Event).
        option_and_then (flight_after o.peer formed later) (notification_mid formed.note)) x)
    by None = refl
    by (Some formed) = of formed (notification_mid formed.note)

-- a message that was retransmitted at a moment
abbrev pub sent_again : ℕ → Sent → Sent
sent_again moment s = record s {
  resend = record { sent = moment; wait = s.resend.wait * 2; again = s.resend.again + 1 };
}

-- one wait is twice the wait before it
doubled : (first n : ℕ) → first * 2 ^ suc n ≡ first * 2 ^ n * 2
doubled first n = ap (λ w. first * w) (pow-suc 2 n) ∙ sym (mul_assoc first (2 ^ n) 2)

-- an observer whose notification was retransmitted
abbrev pub again_for : Peer → ℕ → ℕ → Watching → Watching
again_for peer mid moment x =
    parts x.observer x.due x.last_body (option_map (λ s.
    if is_same_peer peer x.observer.peer && mid == s.mid
    then sent_again moment s
    else s) x.waits)

-- an observer whose notification was acknowledged
abbrev pub landed_for : Peer → ℕ → Watching → Watching
landed_for peer mid x =
    parts x.observer x.due x.last_body (option_and_then
    (λ s. if is_same_peer peer x.observer.peer && mid == s.mid then None else Some s)
    x.waits)

watching-again : (octets : OctetsSent) (seen : List Transition) (place moment word : ℕ)
    (peer : Peer) (mid : ℕ) (events : List Event) (o : Observer)
    → watching octets (event_at place moment word (note.Again peer mid) ∷ events) seen o
    ≡ again_for peer mid moment (watching octets events seen o)
unfolding last_body_formed last_said is_due waiting_notification
watching-again octets seen place moment word peer mid events o =
    ap (parts o (is_due o events seen) (last_body_formed (name_of o) events))
    (ap (option_map (notification_sent octets o.peer)) (flight-more o e events refl)
    ∙ by (flight o events))
  where
    e : Event
    e = event_at place moment word (note.Again peer mid)

    again : Sent → Sent
    again s = if is_same_peer peer o.peer && mid == s.mid then sent_again moment s else s

    of : (f : Flight) (b : Bool)
        → notification_sent octets o.peer (cond b (record f { again = e ∷ f.again }) f)
        ≡ cond b (sent_again moment (notification_sent octets o.peer f))
        (notification_sent octets o.peer f)
    of f true =
        let more : suc (length f.again) ≡ length f.again + 1 = omega arith in
        ap₂ (λ (n m : ℕ).
        record {
          mid = f.mid;
          octets = octets f.formed.place o.peer f.mid;
          resend = record
              { sent = moment; wait = n; again = m };
        })
        (doubled (first_wait f.formed.word) (length f.again)) more
    of f false = refl

    by : (x : Option Flight)
        → option_map (notification_sent octets o.peer) (option_and_then (flight_next o.peer e) x)
        ≡ option_map again (option_map (notification_sent octets o.peer) x)
    by None = refl
    by (Some f) = ap (λ s. Some s) (of f (is_same_peer peer o.peer && mid == f.mid))

pub standing-again : (octets : OctetsSent) (seen : List Transition) (place moment word : ℕ)
    (peer : Peer) (mid : ℕ) (events : List Event)
    → observers_standing octets (event_at place moment word (note.Again peer mid) ∷ events) seen
    ≡ map (again_for peer mid moment) (observers_standing octets events seen)
unfolding observers_standing observers
standing-again octets seen place moment word peer mid events =
    ap (map (watching octets (e ∷ events) seen))
    (append-nil (filter (λ o. true) (observers events)) ∙ all_pass (observers events))
    ∙ map_each (watching octets (e ∷ events) seen) (again_for peer mid moment)
    (watching octets events seen)
    (λ o. watching-again octets seen place moment word peer mid events o) (observers events)
  where
    e : Event
    e = event_at place moment word (note.Again peer mid)

watching-landed : (octets : OctetsSent) (seen : List Transition) (place moment word : ℕ)
    (peer : Peer) (mid : ℕ) (events : List Event) (o : Observer)
    → watching octets (event_at place moment word (note.Landed peer mid) ∷ events) seen o
    ≡ landed_for peer mid (watching octets events seen o)
unfolding last_body_formed last_said is_due waiting_notification
watching-landed octets seen place moment word peer mid events o =
    ap (parts o (is_due o events seen) (last_body_formed (name_of o) events))
    (ap (option_map (notification_sent octets o.peer)) (flight-more o e events refl)
    ∙ by (flight o events))
  where
    e : Event
    e = event_at place moment word (note.Landed peer mid)

    of : (f : Flight) (b : Bool)
        → option_map (notification_sent octets o.peer) (cond b None (Some f))
        ≡ cond b None (Some (notification_sent octets o.peer f))
    of f true = refl
    of f false = refl

    by : (x : Option Flight)
        → option_map (notification_sent octets o.peer) (option_and_then (flight_next o.peer e) x)
        ≡ option_and_then
        (λ (s : Sent). if is_same_peer peer o.peer && mid == s.mid then None else Some s)
        (option_map (notification_sent octets o.peer) x)
    by None = refl
    by (Some f) = of f (is_same_peer peer o.peer && mid == f.mid)

pub standing-landed : (octets : OctetsSent) (seen : List Transition) (place moment word : ℕ)
    (peer : Peer) (mid : ℕ) (events : List Event)
    → observers_standing octets (event_at place moment word (note.Landed peer mid) ∷ events) seen
    ≡ map (landed_for peer mid) (observers_standing octets events seen)
unfolding observers_standing observers
standing-landed octets seen place moment word peer mid events =
    ap (map (watching octets (e ∷ events) seen))
    (append-nil (filter (λ o. true) (observers events)) ∙ all_pass (observers events))
    ∙ map_each (watching octets (e ∷ events) seen) (landed_for peer mid)
    (watching octets events seen)
    (λ o. watching-landed octets seen place moment word peer mid events o) (observers events)
  where
    e : Event
    e = event_at place moment word (note.Landed peer mid)

-- ---- an observer is added

-- an observer that was added with the body of its answer
abbrev pub added : Observer → List ℕ → Watching
added o body = parts o false (Some body) None

-- that another is added leaves what is known of one
watching-watched : (octets : OctetsSent) (seen : List Transition) (place moment word : ℕ)
    (o : Observer) (events : List Event) (x : Observer)
    → watching octets (event_at place moment word (note.Watched o) ∷ events) seen x
    ≡ watching octets events seen x
unfolding last_body_formed last_said is_due waiting_notification flight events_since
watching-watched octets seen place moment word o events x = refl

name_differs : (o : Observer) (xs : List Observer)
    → list_any (λ x. is_same_request (name_of o) (name_of x)) xs ≡ false
    → filter (λ x. not (is_same_request (name_of o) (name_of x))) xs ≡ xs
name_differs o [] none = refl
name_differs o (x ∷ xs) none =
    let both =
    or_parts (is_same_request (name_of o) (name_of x))
    (list_any (λ y. is_same_request (name_of o) (name_of y)) xs) none in
    rw both.0 (ap (λ rest. x ∷ rest) (name_differs o xs both.1))

-- it stands at the end, and others are as they were
pub standing-added : (octets : OctetsSent) (seen : List Transition) (watched : Event)
    (place moment word : ℕ) (o : Observer) (body : List ℕ) (events : List Event)
    → watched.note ≡ note.Watched o
    → list_any (λ x. is_same_request (name_of o) (name_of x)) (observers events) ≡ false
    → AllByRecursion (λ t. t.place ≤ place) seen
    → observers_standing octets
    (event_at place moment word (note.Formed o.peer o.token body None) ∷ watched ∷ events)
    seen
    ≡ observers_standing octets events seen ++ added o body ∷ []
unfolding observers_standing observers
standing-added octets seen watched place moment word o body events is new low =
    ap (map W) (append-nil (filter (λ x. true) (observers (watched ∷ events)))
    ∙ (all_pass (observers (watched ∷ events)) ∙ standing))
    ∙ (map-append W (observers events) (o ∷ [])
    ∙ ap₂ (λ xs x. xs ++ x ∷ []) (others (observers events) new) (same_one))
  where
    e : Event
    e = event_at place moment word (note.Formed o.peer o.token body None)

    W : Observer → Watching
    W = watching octets (e ∷ watched ∷ events) seen

    w : Event
    w = event_at watched.place watched.moment watched.word (note.Watched o)

    noted : watched ≡ w
    noted = ap (event_at watched.place watched.moment watched.word) is

    standing : observers (watched ∷ events) ≡ observers events ++ o ∷ []
    standing =
        ap (λ x. observers (x ∷ events)) noted
        ∙ ap (λ xs. xs ++ o ∷ []) (name_differs o (observers events) new)

    same_one : W o ≡ added o body
    same_one =
        watching-formed octets seen place moment word o.peer o.token body None (watched ∷ events) o
        low
        ∙ (rw (is_same_request-refl (name_of o)) refl)

    before : (x : Observer)
        → watching octets (watched ∷ events) seen x ≡ watching octets events seen x
    before x =
        ap (λ y. watching octets (y ∷ events) seen x) noted
        ∙ watching-watched octets seen watched.place watched.moment watched.word o events x

    apart : (x : Observer)
        → is_same_request (name_of o) (name_of x) ≡ false
        → formed_for octets e (o.peer, o.token) body None
        (watching octets (watched ∷ events) seen x)
        ≡ watching octets (watched ∷ events) seen x
    apart x other = rw other refl

    others : (xs : List Observer)
        → list_any (λ x. is_same_request (name_of o) (name_of x)) xs ≡ false
        → map W xs ≡ map (watching octets events seen) xs
    others [] none = refl
    others (x ∷ xs) none =
        let both =
        or_parts (is_same_request (name_of o) (name_of x))
        (list_any (λ y. is_same_request (name_of o) (name_of y)) xs) none in
        ap₂ (λ y ys. y ∷ ys) (watching-formed octets seen place moment word o.peer o.token body None
        (watched ∷ events) x low
        ∙ (apart x both.0 ∙ before x)) (others xs both.1)
