-- What a table of observers shows with one event more, by its note: one is added or removed, one
-- gets a body or is found to know it, or what waits for one changes. End theorems, for what keeps
-- the observers of a journal: nothing here cites them.
use Rattle.std.proofs.Common.{
  ◌≡◌,
  ℕ,
  ◌≤◌,
  Bool,
  true,
  false,
  not,
  ◌||◌,
  cond,
  List,
  [],
  ◌∷◌,
  ◌++◌,
  map,
  filter,
  Option,
  Some,
  option_map,
  option_and_then,
  refl,
  ap,
  ap₂,
  ◌∙◌,
}
use Rattle.std.specs.List.{AllByRecursion}
use Rattle.rd_base.specs.declared.peers.Peer.{Peer}
use Rattle.event_model.specs.declared.notes.Note.TheVariants as note
use Rattle.event_model.specs.declared.notes.Observer.{Observer}
use Rattle.event_model.specs.Same.{RequestName, is_same_request}
use Rattle.event_model.specs.Events.{Event, last_said}
use Rattle.event_model.specs.Observers.{name_of, observers, last_body_formed}
use Rattle.event_model.specs.Flights.{
  Sent,
  OctetsSent,
  is_landing_of,
  is_again_of,
  waiting_notification,
}
use Rattle.event_model.specs.Due.{Transition, Watching, watching, observers_standing}
use Rattle.event_model.proofs.NotedLaws.{event_at}
use Rattle.event_model.proofs.DueLaws.{due_quiet, due_looked}
use Rattle.event_model.proofs.ObserverEvents.{
  without_named,
  observers-Watched,
  observers-Unwatched,
  observers-quiet,
}
use Rattle.event_model.proofs.FlightLaws.{
  sent_first,
  sent_with,
  waits_unless,
  waiting_notification-Formed,
  waiting_notification-Formed_other,
  waiting_notification-Again,
  waiting_notification-Landed,
  waiting_notification-quiet,
}

-- ---- lists

-- each element of one list comes of that of another
map_through : {A B : Type 0} (f : A → B) (g : B → B) (h : A → B)
    → ((a : A) → f a ≡ g (h a))
    → (xs : List A)
    → map f xs ≡ map g (map h xs)
map_through f g h same [] = refl
map_through f g h same (x ∷ xs) = ap₂ (λ y ys. y ∷ ys) (same x) (map_through f g h same xs)

map_same : {A B : Type 0} (f g : A → B)
    → ((a : A) → f a ≡ g a)
    → (xs : List A)
    → map f xs ≡ map g xs
map_same f g same [] = refl
map_same f g same (x ∷ xs) = ap₂ (λ y ys. y ∷ ys) (same x) (map_same f g same xs)

map_append : {A B : Type 0} (f : A → B) (xs ys : List A) → map f (xs ++ ys) ≡ map f xs ++ map f ys
map_append f [] ys = refl
map_append f (x ∷ xs) ys = ap (λ rest. f x ∷ rest) (map_append f xs ys)

-- those of other names, as they are shown
abbrev pub shown_without : RequestName → List Watching → List Watching
shown_without name shown = filter (λ w. not (is_same_request name (name_of w.observer))) shown

without_shown : (octets : OctetsSent) (events : List Event) (seen : List Transition)
    (name : RequestName) (standing : List Observer)
    → map (watching octets events seen) (without_named name standing)
    ≡ shown_without name (map (watching octets events seen) standing)
without_shown octets events seen name [] = refl
without_shown octets events seen name (o ∷ standing) =
    by (not (is_same_request name (name_of o))) (without_shown octets events seen name standing)
  where
    by : (b : Bool)
        → map (watching octets events seen) (without_named name standing)
        ≡ shown_without name (map (watching octets events seen) standing)
        → map (watching octets events seen)
        (cond b (o ∷ without_named name standing) (without_named name standing))
        ≡ cond b (watching octets events seen o
        ∷ shown_without name (map (watching octets events seen) standing))
        (shown_without name (map (watching octets events seen) standing))
    by true more = ap (λ rest. watching octets events seen o ∷ rest) more
    by false more = more

-- ---- one observer

-- an observer with another message that waits
abbrev pub with_waits : Watching → Option Sent → Watching
with_waits w waits = record {
  observer = w.observer;
  due = w.due;
  last_body = w.last_body;
  waits = waits;
}

-- one whose listing was built: it is not due, and this body was built for it last
abbrev pub with_body : List ℕ → Option Sent → Watching → Watching
with_body body waits w = record {
  observer = w.observer;
  due = false;
  last_body = Some body;
  waits = waits;
}

-- one whose listing was found unchanged: it is not due
abbrev pub not_due : Watching → Watching
not_due w = record { observer = w.observer; due = false; last_body = w.last_body; waits = w.waits }

-- an observer that is added or removed changes nothing of others
watching-Watched : (octets : OctetsSent) (seen : List Transition) (place moment word : ℕ)
    (added : Observer) (before : List Event) (o : Observer)
    → watching octets (event_at place moment word (note.Watched added) ∷ before) seen o
    ≡ watching octets before seen o
unfolding last_body_formed last_said
watching-Watched octets seen place moment word added before o =
    rw (due_quiet o before seen place moment word (note.Watched added ∷ []) refl)
    (rw (waiting_notification-quiet octets o (event_at place moment word (note.Watched added))
    before
    refl) refl)

watching-Unwatched : (octets : OctetsSent) (seen : List Transition) (place moment word : ℕ)
    (peer : Peer) (token : List ℕ) (before : List Event) (o : Observer)
    → watching octets (event_at place moment word (note.Unwatched peer token) ∷ before) seen o
    ≡ watching octets before seen o
unfolding last_body_formed last_said
watching-Unwatched octets seen place moment word peer token before o =
    rw (due_quiet o before seen place moment word (note.Unwatched peer token ∷ []) refl)
    (rw (waiting_notification-quiet octets o (event_at place moment word
    (note.Unwatched peer token))
    before refl) refl)

-- a notification that is retransmitted, or acknowledged
watching-Again : (octets : OctetsSent) (seen : List Transition) (place moment word : ℕ)
    (peer : Peer) (mid : ℕ) (before : List Event) (o : Observer)
    → watching octets (event_at place moment word (note.Again peer mid) ∷ before) seen o
    ≡ with_waits (watching octets before seen o) (option_map
    (λ waits. sent_with (is_again_of o.peer waits.mid (note.Again peer mid)) moment waits)
    (waiting_notification octets before o))
unfolding last_body_formed last_said
watching-Again octets seen place moment word peer mid before o =
    rw (due_quiet o before seen place moment word (note.Again peer mid ∷ []) refl)
    (rw (waiting_notification-Again octets o place moment word peer mid before) refl)

watching-Landed : (octets : OctetsSent) (seen : List Transition) (place moment word : ℕ)
    (peer : Peer) (mid : ℕ) (before : List Event) (o : Observer)
    → watching octets (event_at place moment word (note.Landed peer mid) ∷ before) seen o
    ≡ with_waits (watching octets before seen o) (option_and_then
    (λ waits. waits_unless (is_landing_of o.peer waits.mid (note.Landed peer mid)) waits)
    (waiting_notification octets before o))
unfolding last_body_formed last_said
watching-Landed octets seen place moment word peer mid before o =
    rw (due_quiet o before seen place moment word (note.Landed peer mid ∷ []) refl)
    (rw (waiting_notification-Landed octets o place moment word peer mid before) refl)

-- one of two
either : (b : Bool) → (b || false) ≡ b
either true = refl
either false = refl

-- a body for it, or for another
watching-Formed : (octets : OctetsSent) (seen : List Transition) (place moment word : ℕ)
    (peer : Peer) (token body : List ℕ) (mid : Option ℕ) (before : List Event)
    → AllByRecursion (λ t. t.place ≤ place) seen
    → (o : Observer)
    → watching octets (event_at place moment word (note.Formed peer token body mid) ∷ before) seen o
    ≡ cond (is_same_request (peer, token) (name_of o))
    (with_body body (option_map (sent_first octets o.peer
    (event_at place moment word (note.Formed peer token body mid))) mid)
    (watching octets before seen o)) (watching octets before seen o)
unfolding last_body_formed last_said
watching-Formed octets seen place moment word peer token body mid before low o =
    by (is_same_request (peer, token) (name_of o)) refl
  where
    by : (b : Bool) → is_same_request (peer, token) (name_of o) ≡ b
        → watching octets (event_at place moment word (note.Formed peer token body mid) ∷ before)
        seen o
        ≡ cond b (with_body body (option_map (sent_first octets o.peer
        (event_at place moment word (note.Formed peer token body mid))) mid)
        (watching octets before seen o)) (watching octets before seen o)
    by true same =
        rw (due_looked o before seen place moment word (note.Formed peer token body mid ∷ []) low
        (either (is_same_request (peer, token) (name_of o)) ∙ same))
        (rw (waiting_notification-Formed octets o place moment word peer token body mid before same)
        (rw same refl))
    by false other =
        rw (due_quiet o before seen place moment word (note.Formed peer token body mid ∷ [])
        (either (is_same_request (peer, token) (name_of o)) ∙ other))
        (rw (waiting_notification-Formed_other octets o place moment word peer token body mid before
        other) (rw other refl))

-- its listing is found unchanged, or another's
watching-Unchanged : (octets : OctetsSent) (seen : List Transition) (place moment word : ℕ)
    (peer : Peer) (token : List ℕ) (before : List Event)
    → AllByRecursion (λ t. t.place ≤ place) seen
    → (o : Observer)
    → watching octets (event_at place moment word (note.Unchanged peer token) ∷ before) seen o
    ≡ cond (is_same_request (peer, token) (name_of o)) (not_due (watching octets before seen o))
    (watching octets before seen o)
unfolding last_body_formed last_said
watching-Unchanged octets seen place moment word peer token before low o =
    by (is_same_request (peer, token) (name_of o)) refl
  where
    by : (b : Bool) → is_same_request (peer, token) (name_of o) ≡ b
        → watching octets (event_at place moment word (note.Unchanged peer token) ∷ before) seen o
        ≡ cond b (not_due (watching octets before seen o)) (watching octets before seen o)
    by true same =
        rw (due_looked o before seen place moment word (note.Unchanged peer token ∷ []) low
        (either (is_same_request (peer, token) (name_of o)) ∙ same))
        (rw (waiting_notification-quiet octets o
        (event_at place moment word (note.Unchanged peer token))
        before refl) refl)
    by false other =
        rw (due_quiet o before seen place moment word (note.Unchanged peer token ∷ [])
        (either (is_same_request (peer, token) (name_of o)) ∙ other))
        (rw (waiting_notification-quiet octets o
        (event_at place moment word (note.Unchanged peer token))
        before refl) refl)

-- ---- all that stand

-- one is added after those of other names
pub observers_standing-Watched : (octets : OctetsSent) (seen : List Transition)
    (place moment word : ℕ) (o : Observer) (before : List Event)
    → observers_standing octets (event_at place moment word (note.Watched o) ∷ before) seen
    ≡ shown_without (name_of o) (observers_standing octets before seen)
    ++ watching octets before seen o
    ∷ []
unfolding observers_standing
observers_standing-Watched octets seen place moment word o before =
    ap (map (watching octets (event_at place moment word (note.Watched o) ∷ before) seen))
    (observers-Watched place moment word o before)
    ∙ (map_same (watching octets (event_at place moment word (note.Watched o) ∷ before) seen)
    (watching octets before seen) (watching-Watched octets seen place moment word o before)
    (without_named (name_of o) (observers before) ++ o ∷ [])
    ∙ (map_append (watching octets before seen) (without_named (name_of o) (observers before))
    (o ∷ [])
    ∙ ap (λ shown. shown ++ watching octets before seen o ∷ [])
    (without_shown octets before seen (name_of o) (observers before))))

-- one is removed
pub observers_standing-Unwatched : (octets : OctetsSent) (seen : List Transition)
    (place moment word : ℕ) (peer : Peer) (token : List ℕ) (before : List Event)
    → observers_standing octets (event_at place moment word (note.Unwatched peer token) ∷ before)
    seen
    ≡ shown_without (peer, token) (observers_standing octets before seen)
unfolding observers_standing
observers_standing-Unwatched octets seen place moment word peer token before =
    ap (map (watching octets (event_at place moment word (note.Unwatched peer token) ∷ before)
    seen)) (observers-Unwatched place moment word peer token before)
    ∙ (map_same
    (watching octets (event_at place moment word (note.Unwatched peer token) ∷ before) seen)
    (watching octets before seen)
    (watching-Unwatched octets seen place moment word peer token before)
    (without_named (peer, token) (observers before))
    ∙ without_shown octets before seen (peer, token) (observers before))

-- notes that change what is shown of each, and not who stands
changed_each : (octets : OctetsSent) (seen : List Transition) (e : Event) (before : List Event)
    (change : Watching → Watching)
    → observers (e ∷ before) ≡ observers before
    → ((o : Observer)
    → watching octets (e ∷ before) seen o ≡ change (watching octets before seen o))
    → observers_standing octets (e ∷ before) seen
    ≡ map change (observers_standing octets before seen)
unfolding observers_standing
changed_each octets seen e before change same each =
    ap (map (watching octets (e ∷ before) seen)) same
    ∙ map_through (watching octets (e ∷ before) seen) change (watching octets before seen) each
    (observers before)

-- a body was built for one
pub observers_standing-Formed : (octets : OctetsSent) (seen : List Transition)
    (place moment word : ℕ) (peer : Peer) (token body : List ℕ) (mid : Option ℕ)
    (before : List Event)
    → AllByRecursion (λ t. t.place ≤ place) seen
    → observers_standing octets
    (event_at place moment word (note.Formed peer token body mid) ∷ before) seen
    ≡ map (λ w.
    cond (is_same_request (peer, token) (name_of w.observer))
    (with_body body (option_map (sent_first octets w.observer.peer
    (event_at place moment word (note.Formed peer token body mid))) mid) w)
    w)
    (observers_standing octets before seen)
observers_standing-Formed octets seen place moment word peer token body mid before low =
    changed_each octets seen (event_at place moment word (note.Formed peer token body mid)) before
    (λ w. cond (is_same_request (peer, token) (name_of w.observer))
    (with_body body (option_map (sent_first octets w.observer.peer
    (event_at place moment word (note.Formed peer token body mid))) mid) w) w)
    (observers-quiet (event_at place moment word (note.Formed peer token body mid)) before refl)
    (watching-Formed octets seen place moment word peer token body mid before low)

-- the listing of one was found unchanged
pub observers_standing-Unchanged : (octets : OctetsSent) (seen : List Transition)
    (place moment word : ℕ) (peer : Peer) (token : List ℕ) (before : List Event)
    → AllByRecursion (λ t. t.place ≤ place) seen
    → observers_standing octets (event_at place moment word (note.Unchanged peer token) ∷ before)
    seen
    ≡ map (λ w. cond (is_same_request (peer, token) (name_of w.observer)) (not_due w) w)
    (observers_standing octets before seen)
observers_standing-Unchanged octets seen place moment word peer token before low =
    changed_each octets seen (event_at place moment word (note.Unchanged peer token)) before
    (λ w. cond (is_same_request (peer, token) (name_of w.observer)) (not_due w) w)
    (observers-quiet (event_at place moment word (note.Unchanged peer token)) before refl)
    (watching-Unchanged octets seen place moment word peer token before low)

-- a notification was retransmitted
pub observers_standing-Again : (octets : OctetsSent) (seen : List Transition)
    (place moment word : ℕ) (peer : Peer) (mid : ℕ) (before : List Event)
    → observers_standing octets (event_at place moment word (note.Again peer mid) ∷ before) seen
    ≡ map (λ w.
    with_waits w (option_map (λ waits.
    sent_with (is_again_of w.observer.peer waits.mid (note.Again peer mid))
    moment waits) w.waits)) (observers_standing octets before seen)
observers_standing-Again octets seen place moment word peer mid before =
    changed_each octets seen (event_at place moment word (note.Again peer mid)) before
    (λ w. with_waits w (option_map (λ waits.
    sent_with (is_again_of w.observer.peer waits.mid (note.Again peer mid)) moment
    waits) w.waits))
    (observers-quiet (event_at place moment word (note.Again peer mid)) before refl)
    (watching-Again octets seen place moment word peer mid before)

-- a notification was acknowledged
pub observers_standing-Landed : (octets : OctetsSent) (seen : List Transition)
    (place moment word : ℕ) (peer : Peer) (mid : ℕ) (before : List Event)
    → observers_standing octets (event_at place moment word (note.Landed peer mid) ∷ before) seen
    ≡ map (λ w.
    with_waits w (option_and_then (λ waits.
    waits_unless
    (is_landing_of w.observer.peer waits.mid (note.Landed peer mid)) waits)
    w.waits)) (observers_standing octets before seen)
observers_standing-Landed octets seen place moment word peer mid before =
    changed_each octets seen (event_at place moment word (note.Landed peer mid)) before
    (λ w. with_waits w (option_and_then (λ waits.
    waits_unless (is_landing_of w.observer.peer waits.mid (note.Landed peer mid)) waits)
    w.waits))
    (observers-quiet (event_at place moment word (note.Landed peer mid)) before refl)
    (watching-Landed octets seen place moment word peer mid before)
