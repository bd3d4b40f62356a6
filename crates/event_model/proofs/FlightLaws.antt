-- The notification in flight to an observer with one event more, by what that notes: it is built,
-- retransmitted, acknowledged, or left as it is. Those of observers that are added or removed, of
-- the notes of a row, and of octets are end theorems, for what keeps the events of a journal:
-- nothing here cites them.
use Rattle.std.proofs.Common.{
  ◌≡◌,
  ℕ,
  ◌+◌,
  ◌*◌,
  ◌^◌,
  suc,
  Bool,
  true,
  false,
  ◌||◌,
  cond,
  List,
  [],
  ◌∷◌,
  length,
  filter,
  Option,
  Some,
  None,
  option_map,
  option_and_then,
  refl,
  sym,
  ap,
  ◌∙◌,
  arith,
  mul_assoc,
}
use Rattle.std.specs.List.{list_any}
use Rattle.std.proofs.Math.Nat.{pow-suc}
use Rattle.rd_base.specs.declared.peers.Peer.{Peer}
use Rattle.event_model.specs.declared.notes.Note.{Note}
use Rattle.event_model.specs.declared.notes.Note.TheVariants as note
use Rattle.event_model.specs.declared.notes.Observer.{Observer}
use Rattle.event_model.specs.Same.{is_same_request}
use Rattle.event_model.specs.Events.{Event, noted, last_event, has_event, events_since}
use Rattle.event_model.specs.Observers.{name_of}
use Rattle.event_model.specs.Flights.{
  first_wait,
  Retransmission,
  retransmission,
  Sent,
  OctetsSent,
  is_forming_for,
  notification_mid,
  is_landing_of,
  is_again_of,
  Flight,
  flight_after,
  flight,
  notification_sent,
  waiting_notification,
}
use Rattle.event_model.proofs.NotedLaws.{event_at}
use Rattle.event_model.proofs.AsideLaws.{notes_aside}

-- ---- words

-- a notification that an event builds under a Message ID
abbrev pub flight_formed : Event → ℕ → Flight
flight_formed e mid = record { mid = mid; formed = e; again = [] }

-- a notification with one event more, which retransmits it or not
abbrev pub with_again : Bool → Event → Flight → Flight
with_again true e f = record { mid = f.mid; formed = f.formed; again = e ∷ f.again }
with_again false e f = f

-- a notification with one event more, which acknowledges it or not
abbrev pub unless_landed : Bool → Flight → Option Flight
unless_landed true f = None
unless_landed false f = Some f

-- a notification in flight to a peer with one event more that builds nothing for its observer
abbrev pub flight_with : Peer → Event → Flight → Option Flight
flight_with peer e f =
    unless_landed (is_landing_of peer f.mid e.note) (with_again (is_again_of peer f.mid e.note) e f)

-- the note is about notifications in flight
abbrev pub about_flights : Note → Bool
about_flights (note.Formed peer token body mid) = true
about_flights (note.Again peer mid) = true
about_flights (note.Landed peer mid) = true
about_flights _ = false

-- ---- one event more

-- one that builds a body for the observer: its notification, where it is one
pub flight-formed : (o : Observer) (e : Event) (before : List Event)
    → is_forming_for (name_of o) e.note ≡ true
    → flight o (e ∷ before) ≡ option_map (flight_formed e) (notification_mid e.note)
unfolding flight events_since
flight-formed o e before forms = rw forms (by (notification_mid e.note))
  where
    by : (mid : Option ℕ)
        → option_and_then (flight_after o.peer e []) mid ≡ option_map (flight_formed e) mid
    by None = refl
    by (Some mid) = refl

-- one that builds none for it: the notification that was in flight, unless that was acknowledged
pub flight-unformed : (o : Observer) (e : Event) (before : List Event)
    → is_forming_for (name_of o) e.note ≡ false
    → flight o (e ∷ before) ≡ option_and_then (flight_with o.peer e) (flight o before)
unfolding flight events_since
flight-unformed o e before quiet =
    rw quiet (formed (last_event (is_forming_for (name_of o)) before))
  where
    later : List Event
    later = events_since (is_forming_for (name_of o)) before

    sent : (x : Event) (mid : ℕ) (landed again before_landed : Bool)
        → cond (landed || before_landed) None
        (Some (record {
          mid = mid;
          formed = x;
          again = cond again
              (e ∷ filter (λ y. is_again_of o.peer mid y.note) later)
              (filter (λ y. is_again_of o.peer mid y.note) later);
        }))
        ≡ option_and_then (λ (f : Flight). unless_landed landed (with_again again e f))
        (cond before_landed None (Some (record {
          mid = mid;
          formed = x;
          again = filter (λ y. is_again_of o.peer mid y.note)
              later;
        })))
    sent x mid true again true = refl
    sent x mid true again false = refl
    sent x mid false again true = refl
    sent x mid false true false = refl
    sent x mid false false false = refl

    same : (x : Event) (mid : ℕ) (found : Bool)
        → option_and_then (flight_with o.peer e) (cond found None (Some (record {
          mid = mid;
          formed = x;
          again = filter (λ y. is_again_of o.peer mid y.note)
              later;
        })))
        ≡ option_and_then (λ (f : Flight).
        unless_landed (is_landing_of o.peer mid e.note)
        (with_again (is_again_of o.peer mid e.note) e f))
        (cond found None (Some (record {
          mid = mid;
          formed = x;
          again = filter (λ y. is_again_of o.peer mid y.note)
              later;
        })))
    same x mid true = refl
    same x mid false = refl

    with_mid : (x : Event) (mid : Option ℕ)
        → option_and_then (flight_after o.peer x (e ∷ later)) mid
        ≡ option_and_then (flight_with o.peer e)
        (option_and_then (flight_after o.peer x later) mid)
    with_mid x None = refl
    with_mid x (Some mid) =
        sent x mid (is_landing_of o.peer mid e.note) (is_again_of o.peer mid e.note)
        (has_event (is_landing_of o.peer mid) later)
        ∙ sym (same x mid (has_event (is_landing_of o.peer mid) later))

    formed : (last : Option Event)
        → option_and_then
        (λ x. option_and_then (flight_after o.peer x (e ∷ later)) (notification_mid x.note)) last
        ≡ option_and_then (flight_with o.peer e) (option_and_then
        (λ x. option_and_then (flight_after o.peer x later) (notification_mid x.note)) last)
    formed None = refl
    formed (Some x) = with_mid x (notification_mid x.note)

-- ---- by its note

-- a notification for the observer, or a body that an answer carries
pub flight-Formed : (o : Observer) (place moment word : ℕ) (peer : Peer) (token body : List ℕ)
    (mid : Option ℕ) (before : List Event)
    → is_same_request (peer, token) (name_of o) ≡ true
    → flight o (event_at place moment word (note.Formed peer token body mid) ∷ before)
    ≡ option_map (flight_formed (event_at place moment word (note.Formed peer token body mid)))
    mid
flight-Formed o place moment word peer token body mid before same =
    flight-formed o (event_at place moment word (note.Formed peer token body mid)) before same

-- what is neither changes nothing
none_changed : (peer : Peer) (e : Event)
    → ((mid : ℕ) → is_landing_of peer mid e.note ≡ false)
    → ((mid : ℕ) → is_again_of peer mid e.note ≡ false)
    → (f : Option Flight)
    → option_and_then (flight_with peer e) f ≡ f
none_changed peer e lands again None = refl
none_changed peer e lands again (Some f) = rw (lands f.mid) (rw (again f.mid) refl)

-- a body for another observer
pub flight-Formed_other : (o : Observer) (place moment word : ℕ) (peer : Peer) (token body : List ℕ)
    (mid : Option ℕ) (before : List Event)
    → is_same_request (peer, token) (name_of o) ≡ false
    → flight o (event_at place moment word (note.Formed peer token body mid) ∷ before)
    ≡ flight o before
flight-Formed_other o place moment word peer token body mid before other =
    flight-unformed o (event_at place moment word (note.Formed peer token body mid)) before other
    ∙ none_changed o.peer (event_at place moment word (note.Formed peer token body mid)) (λ m. refl)
    (λ m. refl) (flight o before)

-- a notification that is retransmitted: the one in flight, where it has this peer and Message ID
pub flight-Again : (o : Observer) (place moment word : ℕ) (peer : Peer) (mid : ℕ)
    (before : List Event)
    → flight o (event_at place moment word (note.Again peer mid) ∷ before)
    ≡ option_map (λ f.
    with_again (is_again_of o.peer f.mid (note.Again peer mid))
    (event_at place moment word (note.Again peer mid)) f) (flight o before)
flight-Again o place moment word peer mid before =
    flight-unformed o (event_at place moment word (note.Again peer mid)) before refl
    ∙ by (flight o before)
  where
    by : (f : Option Flight)
        → option_and_then (flight_with o.peer (event_at place moment word (note.Again peer mid))) f
        ≡ option_map (λ x.
        with_again (is_again_of o.peer x.mid (note.Again peer mid))
        (event_at place moment word (note.Again peer mid)) x) f
    by None = refl
    by (Some f) = refl

-- a notification that is acknowledged: the one in flight, where it has this peer and Message ID
pub flight-Landed : (o : Observer) (place moment word : ℕ) (peer : Peer) (mid : ℕ)
    (before : List Event)
    → flight o (event_at place moment word (note.Landed peer mid) ∷ before)
    ≡ option_and_then (λ f. unless_landed (is_landing_of o.peer f.mid (note.Landed peer mid)) f)
    (flight o before)
flight-Landed o place moment word peer mid before =
    flight-unformed o (event_at place moment word (note.Landed peer mid)) before refl
    ∙ by (flight o before)
  where
    by : (f : Option Flight)
        → option_and_then (flight_with o.peer (event_at place moment word (note.Landed peer mid))) f
        ≡ option_and_then
        (λ x. unless_landed (is_landing_of o.peer x.mid (note.Landed peer mid)) x) f
    by None = refl
    by (Some f) = refl

-- any other note leaves it; an observer that is removed or replaced too
pub flight-quiet : (o : Observer) (e : Event) (before : List Event)
    → about_flights e.note ≡ false
    → flight o (e ∷ before) ≡ flight o before
flight-quiet o e before other =
    flight-unformed o e before (by e.note other)
    ∙ none_changed o.peer e (λ mid. lands mid e.note other) (λ mid. again mid e.note other)
    (flight o before)
  where
    by : (n : Note) → about_flights n ≡ false → is_forming_for (name_of o) n ≡ false
    by (note.Formed peer token body mid) h = absurd cc
    by _ h = refl

    lands : (mid : ℕ) (n : Note) → about_flights n ≡ false → is_landing_of o.peer mid n ≡ false
    lands mid (note.Landed peer m) h = absurd cc
    lands mid _ h = refl

    again : (mid : ℕ) (n : Note) → about_flights n ≡ false → is_again_of o.peer mid n ≡ false
    again mid (note.Again peer m) h = absurd cc
    again mid _ h = refl

pub flight-Watched : (o : Observer) (place moment word : ℕ) (added : Observer) (before : List Event)
    → flight o (event_at place moment word (note.Watched added) ∷ before) ≡ flight o before
flight-Watched o place moment word added before =
    flight-quiet o (event_at place moment word (note.Watched added)) before refl

pub flight-Unwatched : (o : Observer) (place moment word : ℕ) (peer : Peer) (token : List ℕ)
    (before : List Event)
    → flight o (event_at place moment word (note.Unwatched peer token) ∷ before) ≡ flight o before
flight-Unwatched o place moment word peer token before =
    flight-quiet o (event_at place moment word (note.Unwatched peer token)) before refl

-- the notes of a row, none of which is about notifications in flight
pub flight-noted : (o : Observer) (place moment word : ℕ) (notes : List Note) (before : List Event)
    → list_any about_flights notes ≡ false
    → flight o (noted place moment word notes before) ≡ flight o before
flight-noted o place moment word notes before none =
    notes_aside about_flights (λ past. flight o past ≡ flight o before)
    (λ e past other h. flight-quiet o e past other ∙ h) place moment word notes before none refl

-- ---- as a message that waits

-- a message that is retransmitted at a moment: it waits from then on, twice as long
abbrev pub resent_at : ℕ → Retransmission → Retransmission
resent_at moment r = record { sent = moment; wait = r.wait * 2; again = r.again + 1 }

-- what waits of a message that one event more retransmits
pub retransmission-again : (first e : Event) (again : List Event)
    → retransmission first (e ∷ again) ≡ resent_at e.moment (retransmission first again)
retransmission-again first e again =
    by (first_wait first.word * 2 ^ suc (length again)) (suc (length again))
    (twice (first_wait first.word) (length again)) (omega arith)
  where
    twice : (w n : ℕ) → w * 2 ^ suc n ≡ w * 2 ^ n * 2
    twice w n = ap (λ k. w * k) (pow-suc 2 n) ∙ sym (mul_assoc w (2 ^ n) 2)

    by : (wait count : ℕ)
        → wait ≡ first_wait first.word * 2 ^ length again * 2
        → count ≡ length again + 1
        → ◌≡◌ {A = Retransmission} (record { sent = e.moment; wait = wait; again = count })
        (resent_at e.moment (retransmission first again))
    by wait count one two = rw one (rw two refl)

-- what waits of a notification that was just built
abbrev pub sent_first : OctetsSent → Peer → Event → ℕ → Sent
sent_first octets peer e mid = record {
  mid = mid;
  octets = octets e.place peer mid;
  resend = record { sent = e.moment; wait = first_wait e.word; again = 0 };
}

pub notification_sent-formed : (octets : OctetsSent) (peer : Peer) (e : Event) (mid : ℕ)
    → notification_sent octets peer (flight_formed e mid) ≡ sent_first octets peer e mid
notification_sent-formed octets peer e mid = by (first_wait e.word * 2 ^ 0) (omega arith)
  where
    by : (wait : ℕ)
        → wait ≡ first_wait e.word
        → ◌≡◌ {A = Sent} (record {
          mid = mid;
          octets = octets e.place peer mid;
          resend = record
              { sent = e.moment; wait = wait; again = 0 };
        }) (sent_first octets peer e mid)
    by wait same = rw same refl

-- and of one that is retransmitted
abbrev pub sent_with : Bool → ℕ → Sent → Sent
sent_with true moment waits = record {
  mid = waits.mid;
  octets = waits.octets;
  resend = resent_at moment waits.resend;
}
sent_with false moment waits = waits

pub notification_sent-again : (octets : OctetsSent) (peer : Peer) (again : Bool) (e : Event)
    (f : Flight)
    → notification_sent octets peer (with_again again e f)
    ≡ sent_with again e.moment (notification_sent octets peer f)
notification_sent-again octets peer true e f = rw (retransmission-again f.formed e f.again) refl
notification_sent-again octets peer false e f = refl

-- so it is of what waits for an observer
pub waiting_notification-Formed : (octets : OctetsSent) (o : Observer) (place moment word : ℕ)
    (peer : Peer) (token body : List ℕ) (mid : Option ℕ) (before : List Event)
    → is_same_request (peer, token) (name_of o) ≡ true
    → waiting_notification octets (event_at place moment word (note.Formed peer token body mid)
    ∷ before)
    o
    ≡ option_map (sent_first octets o.peer
    (event_at place moment word (note.Formed peer token body mid))) mid
unfolding waiting_notification
waiting_notification-Formed octets o place moment word peer token body mid before same =
    ap (option_map (notification_sent octets o.peer))
    (flight-Formed o place moment word peer token body mid before same)
    ∙ by mid
  where
    e : Event
    e = event_at place moment word (note.Formed peer token body mid)

    by : (m : Option ℕ)
        → option_map (notification_sent octets o.peer) (option_map (flight_formed e) m)
        ≡ option_map (sent_first octets o.peer e) m
    by None = refl
    by (Some m) = ap (λ (x : Sent). Some x) (notification_sent-formed octets o.peer e m)

pub waiting_notification-Again : (octets : OctetsSent) (o : Observer) (place moment word : ℕ)
    (peer : Peer) (mid : ℕ) (before : List Event)
    → waiting_notification octets (event_at place moment word (note.Again peer mid) ∷ before) o
    ≡ option_map
    (λ waits. sent_with (is_again_of o.peer waits.mid (note.Again peer mid)) moment waits)
    (waiting_notification octets before o)
unfolding waiting_notification
waiting_notification-Again octets o place moment word peer mid before =
    ap (option_map (notification_sent octets o.peer))
    (flight-Again o place moment word peer mid before)
    ∙ by (flight o before)
  where
    e : Event
    e = event_at place moment word (note.Again peer mid)

    by : (f : Option Flight)
        → option_map (notification_sent octets o.peer)
        (option_map (λ x. with_again (is_again_of o.peer x.mid (note.Again peer mid)) e x) f)
        ≡ option_map
        (λ waits. sent_with (is_again_of o.peer waits.mid (note.Again peer mid)) moment waits)
        (option_map (notification_sent octets o.peer) f)
    by None = refl
    by (Some f) =
        ap (λ (x : Sent). Some x)
        (notification_sent-again octets o.peer (is_again_of o.peer f.mid (note.Again peer mid)) e f)

-- what waits is no longer waited for, or goes on
abbrev pub waits_unless : Bool → Sent → Option Sent
waits_unless true waits = None
waits_unless false waits = Some waits

pub waiting_notification-Landed : (octets : OctetsSent) (o : Observer) (place moment word : ℕ)
    (peer : Peer) (mid : ℕ) (before : List Event)
    → waiting_notification octets (event_at place moment word (note.Landed peer mid) ∷ before) o
    ≡ option_and_then
    (λ waits. waits_unless (is_landing_of o.peer waits.mid (note.Landed peer mid)) waits)
    (waiting_notification octets before o)
unfolding waiting_notification
waiting_notification-Landed octets o place moment word peer mid before =
    ap (option_map (notification_sent octets o.peer))
    (flight-Landed o place moment word peer mid before)
    ∙ by (flight o before)
  where
    one : (f : Flight) (landed : Bool)
        → option_map (notification_sent octets o.peer) (unless_landed landed f)
        ≡ waits_unless landed (notification_sent octets o.peer f)
    one f true = refl
    one f false = refl

    by : (f : Option Flight)
        → option_map (notification_sent octets o.peer) (option_and_then
        (λ x. unless_landed (is_landing_of o.peer x.mid (note.Landed peer mid)) x) f)
        ≡ option_and_then
        (λ waits. waits_unless (is_landing_of o.peer waits.mid (note.Landed peer mid)) waits)
        (option_map (notification_sent octets o.peer) f)
    by None = refl
    by (Some f) = one f (is_landing_of o.peer f.mid (note.Landed peer mid))

pub waiting_notification-Formed_other : (octets : OctetsSent) (o : Observer) (place moment word : ℕ)
    (peer : Peer) (token body : List ℕ) (mid : Option ℕ) (before : List Event)
    → is_same_request (peer, token) (name_of o) ≡ false
    → waiting_notification octets (event_at place moment word (note.Formed peer token body mid)
    ∷ before)
    o
    ≡ waiting_notification octets before o
unfolding waiting_notification
waiting_notification-Formed_other octets o place moment word peer token body mid before other =
    ap (option_map (notification_sent octets o.peer))
    (flight-Formed_other o place moment word peer token body mid before other)

pub waiting_notification-quiet : (octets : OctetsSent) (o : Observer) (e : Event)
    (before : List Event)
    → about_flights e.note ≡ false
    → waiting_notification octets (e ∷ before) o ≡ waiting_notification octets before o
unfolding waiting_notification
waiting_notification-quiet octets o e before other =
    ap (option_map (notification_sent octets o.peer)) (flight-quiet o e before other)

-- two ways to find the octets of rows that agree on the row that built the notification
pub waiting_notification-octets : (one two : OctetsSent) (o : Observer) (events : List Event)
    → ((f : Flight)
    → flight o events ≡ Some f
    → one f.formed.place o.peer f.mid ≡ two f.formed.place o.peer f.mid)
    → waiting_notification one events o ≡ waiting_notification two events o
unfolding waiting_notification
waiting_notification-octets one two o events agree = by (flight o events) agree
  where
    by : (found : Option Flight)
        → ((f : Flight)
        → found ≡ Some f
        → one f.formed.place o.peer f.mid ≡ two f.formed.place o.peer f.mid)
        → option_map (notification_sent one o.peer) found
        ≡ option_map (notification_sent two o.peer) found
    by None h = refl
    by (Some f) h = rw (h f refl) refl
