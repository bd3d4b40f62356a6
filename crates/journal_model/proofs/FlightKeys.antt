-- Notifications in flight: their Message ID and the place of the row that built them, with one
-- note more.
use Rattle.std.proofs.Common.{
  ◌≡◌,
  ℕ,
  ◌||◌,
  Bool,
  true,
  false,
  cond,
  List,
  [],
  ◌∷◌,
  filter,
  Option,
  Some,
  None,
  option_map,
  option_and_then,
  refl,
  sym,
  subst,
  ◌∙◌,
}
use Rattle.std.specs.Prelude.{is_some}
use Rattle.std.specs.List.{list_any}
use Rattle.std.proofs.lemmas.Bool.{false≢true}
use Rattle.rd_base.specs.declared.peers.Peer.{Peer}
use Rattle.event_model.specs.declared.notes.Note.{Note}
use Rattle.event_model.specs.declared.notes.Note.TheVariants as note
use Rattle.event_model.specs.declared.notes.Observer.{Observer}
use Rattle.event_model.specs.Events.{Event, noted, last_event, has_event, events_since}
use Rattle.event_model.specs.Observers.{name_of}
use Rattle.event_model.specs.Flights.{
  is_forming_for,
  notification_mid,
  is_landing_of,
  is_again_of,
  Flight,
  flight_after,
  flight,
}
use Rattle.event_model.proofs.SameLaws.{is_same_request-refl}
use Rattle.event_model.proofs.NotedLaws.{event_at}
use Rattle.std.proofs.lemmas.Bool.{or_parts}

-- the Message ID of a notification in flight, and the place of the row that built it
abbrev pub key_of : Flight → ℕ × ℕ
key_of f = (f.mid, f.formed.place)

-- that of the notification in flight to an observer, where there is one
abbrev pub flight_key : Observer → List Event → Option (ℕ × ℕ)
flight_key o events = option_map key_of (flight o events)

-- a flight that is had after a note which builds nothing for the observer was had before it
pub key_before : (o : Observer) (e : Event) (before : List Event) (k : ℕ × ℕ)
    → is_forming_for (name_of o) e.note ≡ false
    → flight_key o (e ∷ before) ≡ Some k
    → flight_key o before ≡ Some k
unfolding flight events_since
key_before o e before k quiet found =
    formed (last_event (is_forming_for (name_of o)) before)
    (subst (λ b. Behind b (last_event (is_forming_for (name_of o)) before)) quiet found)
  where
    later : List Event
    later = events_since (is_forming_for (name_of o)) before

    Behind : Bool → Option Event → Type 0
    Behind b last = option_map key_of
        (option_and_then (λ x.
        option_and_then (flight_after o.peer x
        (cond b [] (e ∷ events_since (is_forming_for (name_of o)) before)))
        (notification_mid x.note)) (cond b (Some e) last))
        ≡ Some k

    landed : (x : Event) (mid : ℕ) (b c : Bool)
        → option_map key_of
        (cond (b || c) None (Some (record {
          mid = mid;
          formed = x;
          again = filter
              (λ y. is_again_of o.peer mid y.note) (e ∷ later);
        })))
        ≡ Some k
        → option_map key_of (cond c None (Some (record {
          mid = mid;
          formed = x;
          again = filter
              (λ y. is_again_of o.peer mid y.note) later;
        })))
        ≡ Some k
    landed x mid true c h = absurd (let no : None ≡ Some k = h in cc)
    landed x mid false true h = absurd (let no : None ≡ Some k = h in cc)
    landed x mid false false h = h

    with_mid : (x : Event) (mid : Option ℕ)
        → option_map key_of (option_and_then (flight_after o.peer x (e ∷ later)) mid) ≡ Some k
        → option_map key_of (option_and_then (flight_after o.peer x later) mid) ≡ Some k
    with_mid x None h = h
    with_mid x (Some mid) h =
        landed x mid (is_landing_of o.peer mid e.note) (has_event (is_landing_of o.peer mid) later)
        h

    formed : (last : Option Event)
        → Behind false last
        → option_map key_of (option_and_then
        (λ x. option_and_then (flight_after o.peer x later) (notification_mid x.note)) last)
        ≡ Some k
    formed None h = h
    formed (Some x) h = with_mid x (notification_mid x.note) h

-- the note acknowledges a notification
abbrev pub is_landing : Note → Bool
is_landing (note.Landed peer mid) = true
is_landing _ = false

-- else it acknowledges none of them
not_landing : (peer : Peer) (mid : ℕ) (n : Note)
    → is_landing n ≡ false
    → is_landing_of peer mid n ≡ false
not_landing peer mid (note.Landed p m) h = absurd (false≢true (sym h))
not_landing peer mid _ h = refl

-- and where it acknowledges none, the flight is the same
pub key_same : (o : Observer) (e : Event) (before : List Event)
    → is_forming_for (name_of o) e.note ≡ false
    → is_landing e.note ≡ false
    → flight_key o (e ∷ before) ≡ flight_key o before
unfolding flight events_since
key_same o e before quiet lands = rw quiet (formed (last_event (is_forming_for (name_of o)) before))
  where
    later : List Event
    later = events_since (is_forming_for (name_of o)) before

    landed : (x : Event) (mid : ℕ) (c : Bool)
        → option_map key_of (cond c None (Some (record {
          mid = mid;
          formed = x;
          again = filter (λ y. is_again_of o.peer mid y.note)
              (e ∷ later);
        })))
        ≡ option_map key_of (cond c None (Some (record {
          mid = mid;
          formed = x;
          again = filter (λ y. is_again_of o.peer mid y.note)
              later;
        })))
    landed x mid true = refl
    landed x mid false = refl

    with_mid : (x : Event) (mid : Option ℕ)
        → option_map key_of (option_and_then (flight_after o.peer x (e ∷ later)) mid)
        ≡ option_map key_of (option_and_then (flight_after o.peer x later) mid)
    with_mid x None = refl
    with_mid x (Some mid) =
        rw (not_landing o.peer mid e.note lands)
        (landed x mid (has_event (is_landing_of o.peer mid) later))

    formed : (last : Option Event)
        → option_map key_of (option_and_then
        (λ x. option_and_then (flight_after o.peer x (e ∷ later)) (notification_mid x.note)) last)
        ≡ option_map key_of (option_and_then
        (λ x. option_and_then (flight_after o.peer x later) (notification_mid x.note)) last)
    formed None = refl
    formed (Some x) = with_mid x (notification_mid x.note)

-- a note that builds a notification for the observer, or a body in an answer
pub key_formed : (o : Observer) (place moment word : ℕ) (body : List ℕ) (mid : ℕ)
    (before : List Event)
    → flight_key o
    (event_at place moment word (note.Formed o.peer o.token body (Some mid)) ∷ before)
    ≡ Some (mid, place)
unfolding flight events_since
key_formed o place moment word body mid before = rw (is_same_request-refl (name_of o)) refl

-- ---- notes of a row

-- none of them builds anything for the observer
pub key_before_all : (o : Observer) (place moment word : ℕ) (notes : List Note)
    (before : List Event) (k : ℕ × ℕ)
    → list_any (is_forming_for (name_of o)) notes ≡ false
    → flight_key o (noted place moment word notes before) ≡ Some k → flight_key o before ≡ Some k
key_before_all o place moment word [] before k quiet found = found
key_before_all o place moment word (n ∷ notes) before k quiet found =
    let both =
    or_parts (is_forming_for (name_of o) n) (list_any (is_forming_for (name_of o)) notes)
    quiet in
    key_before o (event_at place moment word n) before k both.0
    (key_before_all o place moment word notes (event_at place moment word n ∷ before) k both.1
    found)

-- nor acknowledges
pub key_same_all : (o : Observer) (place moment word : ℕ) (notes : List Note) (before : List Event)
    → list_any (is_forming_for (name_of o)) notes ≡ false
    → list_any is_landing notes ≡ false
    → flight_key o (noted place moment word notes before) ≡ flight_key o before
key_same_all o place moment word [] before quiet lands = refl
key_same_all o place moment word (n ∷ notes) before quiet lands =
    let both =
    or_parts (is_forming_for (name_of o) n) (list_any (is_forming_for (name_of o)) notes)
    quiet in
    let none = or_parts (is_landing n) (list_any is_landing notes) lands in
    key_same_all o place moment word notes (event_at place moment word n ∷ before) both.1 none.1
    ∙ key_same o (event_at place moment word n) before both.0 none.0

-- the note builds a notification
abbrev pub is_notification : Note → Bool
is_notification (note.Formed peer token body mid) = is_some mid
is_notification _ = false

-- where the last that was built for the observer is no notification, none is in flight
pub key_none : (o : Observer) (past : List Event) (e : Event)
    → last_event (is_forming_for (name_of o)) past ≡ Some e
    → is_notification e.note ≡ false
    → flight_key o past ≡ None
unfolding flight
key_none o past e last other = rw last (by e.note other)
  where
    by : (n : Note)
        → is_notification n ≡ false
        → option_map key_of (option_and_then
        (flight_after o.peer e (events_since (is_forming_for (name_of o)) past))
        (notification_mid n))
        ≡ None
    by (note.Formed peer token body None) h = refl
    by (note.Formed peer token body (Some mid)) h = absurd (false≢true (sym h))
    by _ h = refl
