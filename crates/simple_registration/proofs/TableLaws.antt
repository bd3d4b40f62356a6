-- What a table of fetches stands for, as it is used and changed.
use Rattle.std.proofs.Common.{
  ◌≡◌,
  ℕ,
  ◌+◌,
  ◌==◌,
  ◌||◌,
  ◌&&◌,
  Bool,
  true,
  false,
  cond,
  List,
  [],
  ◌∷◌,
  ◌++◌,
  length,
  find,
  Option,
  Some,
  None,
  option_map,
  option_and_then,
  refl,
  sym,
  ap,
  subst,
  ◌∙◌,
  zero-add,
  arith,
  ◌%◌,
  ◌^◌,
  count_by,
  ap₂,
}
use Rattle.std.specs.Prelude.{is_some}
use Rattle.std.specs.List.{cons_option, filter_map, list_any, AllByRecursion}
use Rattle.std.proofs.lemmas.Bool.{false≢true, ne_eqb}
use Rattle.std.proofs.lemmas.List.{length-map}
use Rattle.std.proofs.lemmas.List.Sums.{sum_by-cons}
use Rattle.std.proofs.lemmas.List.Elements.{filter_map-append}
use Rattle.rd_base.specs.declared.peers.Peer.{Peer}
use Rattle.message_model.specs.Message.{Message}
use Rattle.rd_base.specs.declared.parameters.RegParams.{RegParams}
use Rattle.event_model.specs.declared.notes.Note.TheVariants as note
use Rattle.event_model.specs.Same.{is_same_peer}
use Rattle.event_model.specs.Events.{Event}
use Rattle.event_model.specs.Flights.{OctetsSent}
use Rattle.event_model.specs.Fetches.{
  fetches,
  is_fetching,
  Request,
  request_noted,
  last_request,
  Fetch,
  fetch_asked,
  fetch_of,
  fetches_running,
  is_start,
  fetches_started,
  request_of,
  is_request_of,
  made_request,
}
use Rattle.event_model.proofs.SameLaws.{is_same_peer-refl}
use Rattle.event_model.proofs.NotedLaws.{event_at}
use Rattle.exchange_core.specs.declared.resends.Again.TheVariants as again
use Rattle.simple_registration.specs.Running.{
  is_answered_by,
  with_block,
  with_request,
  awaiting,
  after_due,
  sent_first,
}
use Rattle.rd_base.specs.Firsts.{changed_first, without_first}
use Rattle.simple_registration.specs.Table.{Table, is_of, some_passes}
use Rattle.simple_registration.specs.FetchEvents.{FetchesStandFor, has_names_of_request}
use Rattle.simple_registration.proofs.NoteLaws.{
  IsAside,
  fetch_of-aside,
  other_Asked,
  other_Gathered,
  other_Resent,
  other_Waiting,
  any_Ceased,
  fetch_of-Gathered,
  fetch_of-Resent,
  fetch_of-Waiting,
  fetch_of-Asked,
  fetch_of-start,
}
use Rattle.simple_registration.proofs.PeerLaws.{fetches-aside, fetches-Ceased, fetches-start}
use Rattle.simple_registration.proofs.RunningLaws.{
  running-peers,
  running-found,
  running-changed,
  running-dropped,
  running-there,
  fetch_of-peer,
  same_for,
  changed_twice,
}

-- ---- the fetch of a peer

-- a fetch that is found of a peer is its fetch, as events say it
pub found_running : (octets : OctetsSent) (events : List Event) (t : Table) (p : Peer) (f : Fetch)
    → FetchesStandFor octets events t
    → find (is_of p) t.fetches ≡ Some f
    → (is_fetching p events ≡ true) × (fetch_of octets events p ≡ Some f)
found_running octets events t p f stands found =
    by (is_fetching p events) refl
    (sym (running-found octets events p) ∙ (ap (find (is_of p)) (sym stands.running) ∙ found))
  where
    by : (b : Bool)
        → is_fetching p events ≡ b
        → cond b (fetch_of octets events p) None ≡ Some f
        → (is_fetching p events ≡ true) × (fetch_of octets events p ≡ Some f)
    by true e is = (e, is)
    by false e is = absurd cc

-- where none is found, none runs
pub none_running : (octets : OctetsSent) (events : List Event) (t : Table) (p : Peer)
    → FetchesStandFor octets events t
    → find (is_of p) t.fetches ≡ None
    → is_fetching p events ≡ false
none_running octets events t p stands none =
    by (is_fetching p events) refl
    (sym (running-found octets events p) ∙ (ap (find (is_of p)) (sym stands.running) ∙ none))
  where
    not_there : (o : Option Fetch) → is_some o ≡ true → o ≡ None → ⊥
    not_there None h e = false≢true h
    not_there (Some x) h e = cc

    by : (b : Bool)
        → is_fetching p events ≡ b
        → cond b (fetch_of octets events p) None ≡ None
        → is_fetching p events ≡ false
    by true e is =
        absurd (not_there (fetch_of octets events p) (running-there octets events p e) is)
    by false e is = e

-- how many there are
pub running_length : (octets : OctetsSent) (events : List Event) (t : Table)
    → FetchesStandFor octets events t
    → length t.fetches ≡ length (fetches events)
running_length octets events t stands =
    ap length stands.running
    ∙ (sym (length-map (fetches_running octets events) (λ (f : Fetch). f.peer))
    ∙ ap length (running-peers octets events))

-- a test of the fetch of a peer
some_of : (test : Fetch → Bool) (b : Bool) (o : Option Fetch)
    → some_passes test (cond b o None) ≡ (b && some_passes test o)
some_of test true o = refl
some_of test false o = refl

pub running_passes : (octets : OctetsSent) (events : List Event) (t : Table) (p : Peer)
    (test : Fetch → Bool)
    → FetchesStandFor octets events t
    → some_passes test (find (is_of p) t.fetches)
    ≡ (is_fetching p events && some_passes test (fetch_of octets events p))
running_passes octets events t p test stands =
    ap (some_passes test) (ap (find (is_of p)) stands.running ∙ running-found octets events p)
    ∙ some_of test (is_fetching p events) (fetch_of octets events p)

-- a response has the names of the last request
pub names_passed : (octets : OctetsSent) (events : List Event) (p : Peer) (m : Message)
    → some_passes (is_answered_by m) (fetch_of octets events p)
    ≡ has_names_of_request m (request_of (last_request p events))
names_passed octets events p m = by (last_request p events)
  where
    made : (e : Event) (r : Option Request)
        → some_passes (is_answered_by m) (option_map (fetch_asked octets events p e) r)
        ≡ has_names_of_request m r
    made e None = refl
    made e (Some r) = refl

    by : (o : Option Event)
        → some_passes (is_answered_by m) (option_and_then
        (λ e. option_map (fetch_asked octets events p e) (request_noted e.note)) o)
        ≡ has_names_of_request m (request_of o)
    by None = refl
    by (Some e) = made e (request_noted e.note)

-- the last request has a Message ID
pub mid_passed : (octets : OctetsSent) (events : List Event) (p : Peer) (mid : ℕ)
    → some_passes (λ f. f.waits.mid == mid) (fetch_of octets events p)
    ≡ made_request mid (last_request p events)
mid_passed octets events p mid = by (last_request p events)
  where
    made : (e : Event) (r : Option Request)
        → some_passes (λ f. f.waits.mid == mid) (option_map (fetch_asked octets events p e) r)
        ≡ is_request_of mid r
    made e None = refl
    made e (Some r) = refl

    by : (o : Option Event)
        → some_passes (λ f. f.waits.mid == mid) (option_and_then
        (λ e. option_map (fetch_asked octets events p e) (request_noted e.note)) o)
        ≡ made_request mid o
    by None = refl
    by (Some e) = made e (request_noted e.note)

-- a fetch, with the event of its last request
pub record IsShown (octets : OctetsSent) (events : List Event) (p : Peer) (request : Request)
    (f : Fetch) : Type 0 where
  pub event : Event
  pub last : last_request p events ≡ Some event
  pub shown : f ≡ fetch_asked octets events p event request

pub is_shown : (octets : OctetsSent) (events : List Event) (p : Peer) (request : Request)
    (f : Fetch)
    → fetch_of octets events p ≡ Some f
    → request_of (last_request p events) ≡ Some request
    → IsShown octets events p request f
is_shown octets events p request f is asked = by (last_request p events) refl is asked
  where
    by : (o : Option Event)
        → last_request p events ≡ o
        → option_and_then (λ e. option_map (fetch_asked octets events p e) (request_noted e.note)) o
        ≡ Some f
        → request_of o ≡ Some request
        → IsShown octets events p request f
    by None last is asked = absurd cc
    by (Some e) last is asked =
        let shown : Some (fetch_asked octets events p e request) ≡ Some f =
        ap (option_map (fetch_asked octets events p e)) (sym asked) ∙ is in
        record {
          event = e;
          last = last;
          shown = let same : fetch_asked octets events p e request ≡ f = cc in sym same;
        }

-- ---- how many started

-- a note that starts none
pub started-aside : (e : Event) (events : List Event)
    → is_start e.note ≡ false
    → fetches_started (e ∷ events) ≡ fetches_started events
unfolding fetches_started
started-aside e events other =
    ap (λ n. n % 2 ^ 64) (sum_by-cons one e events
    ∙ (ap (λ b. cond b 1 0 + count_by (λ (x : Event). is_start x.note) events) other
    ∙ zero-add (count_by (λ (x : Event). is_start x.note) events)))
  where
    one : Event → ℕ
    one x = cond (is_start x.note) 1 0

-- one that starts one
started-more : (e : Event) (events : List Event)
    → is_start e.note ≡ true
    → fetches_started (e ∷ events) ≡ (fetches_started events + 1) % 2 ^ 64
unfolding fetches_started
started-more e events it =
    ap (λ n. n % 2 ^ 64) (sum_by-cons one e events
    ∙ ap (λ b. cond b 1 0 + count_by (λ (x : Event). is_start x.note) events) it)
    ∙ low (count_by (λ (x : Event). is_start x.note) events)
  where
    one : Event → ℕ
    one x = cond (is_start x.note) 1 0

    low : (n : ℕ) → (1 + n) % 2 ^ 64 ≡ (n % 2 ^ 64 + 1) % 2 ^ 64
    low n = omega arith

-- ---- the table changes

-- none
pub stands-none : (octets : OctetsSent) (t : Table)
    → t.fetches ≡ []
    → t.started ≡ 0
    → FetchesStandFor octets [] t
unfolding fetches_running fetches fetches_started
stands-none octets t none zero_ = record { running = none; started = zero_ }

-- a fetch starts
pub stands-started : (octets : OctetsSent) (now word mid : ℕ) (p : Peer) (token : List ℕ)
    (params : RegParams) (e : Event) (events : List Event) (t more : Table)
    → is_fetching p events ≡ false
    → e.note ≡ note.Asked p token mid params 0 → e.moment ≡ now → e.word ≡ word
    → more.fetches
    ≡ t.fetches
    ++ record {
      peer =
          p;
      token =
          token;
      params =
          params;
      number =
          0;
      asked =
          now;
      waits =
          sent_first now word mid (octets e.place p mid);
      acknowledged =
          false;
      body = [];
      tag = None;
    }
    ∷ []
    → more.started ≡ (t.started + 1) % 2 ^ 64
    → FetchesStandFor octets events t
    → FetchesStandFor octets (e ∷ events) more
unfolding fetches_running
stands-started octets now word mid p token params e events t more none is at with added counted
    stands =
    record {
      running =
          added
          ∙ (ap (λ xs. xs ++ first ∷ []) (stands.running ∙ sym others)
          ∙ (sym
          (ap (λ o. filter_map (fetch_of octets (e ∷ events)) (fetches events) ++ cons_option o [])
          own)
          ∙ (sym (filter_map-append (fetch_of octets (e ∷ events)) (fetches events) (p ∷ []))
          ∙ ap (filter_map (fetch_of octets (e ∷ events)))
          (sym (fetches-start p token mid params e events is none)))));
      started =
          counted
          ∙ (ap (λ n. (n + 1) % 2 ^ 64) stands.started ∙ sym (started-more e events (rw is refl)));
    }
  where
    first : Fetch
    first = record {
      peer = p;
      token = token;
      params = params;
      number = 0;
      asked = now;
      waits = sent_first now word mid (octets e.place p mid);
      acknowledged = false;
      body = [];
      tag = None;
    }

    apart : (peers : List Peer)
        → list_any (is_same_peer p) peers ≡ false
        → AllByRecursion (λ q. is_same_peer p q ≡ false) peers
    apart [] h = tt
    apart (q ∷ peers) h = by (is_same_peer p q) refl h (apart peers)
      where
        by : (b : Bool)
            → is_same_peer p q ≡ b
            → (b || list_any (is_same_peer p) peers) ≡ false
            → (list_any (is_same_peer p) peers ≡ false
            → AllByRecursion (λ x. is_same_peer p x ≡ false) peers)
            → AllByRecursion (λ x. is_same_peer p x ≡ false) (q ∷ peers)
        by true g h more = absurd (false≢true (sym h))
        by false g h more = (g, more h)

    others :
        filter_map (fetch_of octets (e ∷ events)) (fetches events)
        ≡ filter_map (fetch_of octets events) (fetches events)
    others =
        same_for (fetch_of octets (e ∷ events)) (fetch_of octets events) p
        (λ q other.
        fetch_of-aside octets q e events
        (subst (IsAside q) (sym is) (other_Asked p q token mid params 0 other)))
        (fetches events) (apart (fetches events) none)

    own : fetch_of octets (e ∷ events) p ≡ Some first
    own =
        subst (λ n. fetch_of octets (event_at e.place e.moment e.word n ∷ events) p ≡ Some first)
        (sym is)
        (fetch_of-start octets p e.place e.moment e.word token mid params events
        (is_same_peer-refl p)
        ∙ ap₂ (λ m w.
        Some
        (record first { asked = m; waits = sent_first m w mid (octets e.place p mid) }))
        at with)

-- the fetch of a peer changes
pub stands-changed : (octets : OctetsSent) (p : Peer) (x y : Fetch) (e : Event)
    (events : List Event) (t more : Table)
    → is_start e.note ≡ false
    → fetches (e ∷ events) ≡ fetches events
    → ((q : Peer)
    → is_same_peer p q ≡ false
    → fetch_of octets (e ∷ events) q ≡ fetch_of octets events q)
    → fetch_of octets events p ≡ Some x
    → fetch_of octets (e ∷ events) p ≡ Some y
    → more.fetches ≡ changed_first (is_of p) (λ f. y) t.fetches
    → more.started ≡ t.started
    → FetchesStandFor octets events t
    → FetchesStandFor octets (e ∷ events) more
stands-changed octets p x y e events t more no_start as_before others was is changed counted
    stands =
    record {
      running =
          changed
          ∙ (ap (changed_first (is_of p) (λ f. y)) stands.running
          ∙ sym (running-changed octets p (λ f. y) x e events as_before others was is));
      started = counted ∙ (stands.started ∙ sym (started-aside e events no_start));
    }

-- its request was retransmitted
pub stands-resent : (octets : OctetsSent) (p : Peer) (x : Fetch) (now : ℕ) (e : Event)
    (events : List Event) (t more : Table)
    → e.note ≡ note.Resent p
    → e.moment ≡ now
    → fetch_of octets events p ≡ Some x
    → more.fetches ≡ changed_first (is_of p) (λ f. after_due again.Send now x) t.fetches
    → more.started ≡ t.started
    → FetchesStandFor octets events t
    → FetchesStandFor octets (e ∷ events) more
stands-resent octets p x now e events t more is at was changed counted stands =
    stands-changed octets p x (after_due again.Send now x) e events t more (rw is refl)
    (fetches-aside e events (λ q. rw is refl) (rw is refl))
    (λ q other.
    fetch_of-aside octets q e events (subst (IsAside q) (sym is) (other_Resent p q other))) was
    (subst (λ n.
    fetch_of octets (event_at e.place e.moment e.word n ∷ events) p
    ≡ Some (after_due again.Send now x)) (sym is)
    (fetch_of-Resent octets p e.place e.moment e.word events (is_same_peer-refl p)
    ∙ (ap (option_map (after_due again.Send e.moment)) was
    ∙ ap (λ m. Some (after_due again.Send m x)) at)))
    changed counted stands

-- its request was acknowledged
pub stands-waiting : (octets : OctetsSent) (p : Peer) (x : Fetch) (e : Event) (events : List Event)
    (t more : Table)
    → e.note ≡ note.Waiting p
    → fetch_of octets events p ≡ Some x
    → more.fetches ≡ changed_first (is_of p) (λ f. awaiting x) t.fetches
    → more.started ≡ t.started
    → FetchesStandFor octets events t
    → FetchesStandFor octets (e ∷ events) more
stands-waiting octets p x e events t more is was changed counted stands =
    stands-changed octets p x (awaiting x) e events t more (rw is refl)
    (fetches-aside e events (λ q. rw is refl) (rw is refl))
    (λ q other.
    fetch_of-aside octets q e events (subst (IsAside q) (sym is) (other_Waiting p q other))) was
    (subst
    (λ n. fetch_of octets (event_at e.place e.moment e.word n ∷ events) p ≡ Some (awaiting x))
    (sym is)
    (fetch_of-Waiting octets p e.place e.moment e.word events (is_same_peer-refl p)
    ∙ ap (option_map awaiting) was))
    changed counted stands

-- it ends
pub stands-ceased : (octets : OctetsSent) (p : Peer) (e : Event) (events : List Event)
    (t fewer : Table)
    → e.note ≡ note.Ceased p
    → fewer.fetches ≡ without_first (is_of p) t.fetches
    → fewer.started ≡ t.started
    → FetchesStandFor octets events t → FetchesStandFor octets (e ∷ events) fewer
stands-ceased octets p e events t fewer is left counted stands = record {
  running =
      left
      ∙ (ap (without_first (is_of p)) stands.running
      ∙ sym (running-dropped octets p e events (fetches-Ceased p e events is)
      (λ q. fetch_of-aside octets q e events
      (subst (IsAside q) (sym is) (any_Ceased p q)))));
  started = counted ∙ (stands.started ∙ sym (started-aside e events (rw is refl)));
}

-- a block of it came, and the next is asked for
pub stands-next : (octets : OctetsSent) (p : Peer) (x y : Fetch) (request : Request)
    (bytes : List ℕ) (tag : Option (List ℕ)) (now word mid number : ℕ) (gathered_then asked : Event)
    (events : List Event) (t more : Table)
    → gathered_then.note ≡ note.Gathered p bytes tag
    → asked.note ≡ note.Asked p request.token mid request.params (number + 1)
    → asked.moment ≡ now
    → asked.word ≡ word
    → fetch_of octets events p ≡ Some x
    → request_of (last_request p events) ≡ Some request
    → y ≡ with_request (number + 1) now word mid (octets asked.place p mid) (with_block bytes tag x)
    → more.fetches ≡ changed_first (is_of p) (λ f. y) t.fetches
    → more.started ≡ t.started
    → FetchesStandFor octets events t
    → FetchesStandFor octets (asked ∷ gathered_then ∷ events) more
stands-next octets p x y request bytes tag now word mid number g a events t more g_is a_is at with
    was made y_is changed counted stands =
    stands-changed octets p middle y a (g ∷ events) between more no_start
    (fetches-aside a (g ∷ events) (λ q. rw a_is (rw later refl)) (rw a_is (rw later refl)))
    (λ q other.
    fetch_of-aside octets q a (g ∷ events) (subst (IsAside q) (sym a_is)
    (other_Asked p q request.token mid request.params (number + 1) other))) middle_is
    then_is
    (changed ∙ sym (changed_twice (is_of p) middle y own t.fetches)) counted
    (stands-changed octets p x middle g events t between (rw g_is refl)
    (fetches-aside g events (λ q. rw g_is refl) (rw g_is refl))
    (λ q other.
    fetch_of-aside octets q g events
    (subst (IsAside q) (sym g_is) (other_Gathered p q bytes tag other))) was middle_is refl
    refl stands)
  where
    later : (number + 1 == 0) ≡ false
    later = ne_eqb (number + 1) 0 (λ e. absurd (omega (arith, e)))

    no_start : is_start a.note ≡ false
    no_start = rw a_is later

    middle : Fetch
    middle = with_block bytes tag x

    between : Table
    between = record {
      fetches = changed_first (is_of p) (λ f. middle) t.fetches;
      started = t.started;
    }

    middle_is : fetch_of octets (g ∷ events) p ≡ Some middle
    middle_is =
        subst (λ n. fetch_of octets (event_at g.place g.moment g.word n ∷ events) p ≡ Some middle)
        (sym g_is)
        (fetch_of-Gathered octets p g.place g.moment g.word bytes tag events (is_same_peer-refl p)
        ∙ ap (option_map (with_block bytes tag)) was)

    own : is_of p middle ≡ true
    own =
        subst (λ (r : Peer). is_same_peer r p ≡ true) (sym (fetch_of-peer octets events p x was))
        (is_same_peer-refl p)

    shown : IsShown octets (g ∷ events) p request middle
    shown =
        is_shown octets (g ∷ events) p request middle middle_is
        (subst (λ n.
        request_of (last_request p (event_at g.place g.moment g.word n ∷ events))
        ≡ Some request) (sym g_is) made)

    then_is : fetch_of octets (a ∷ g ∷ events) p ≡ Some y
    then_is =
        subst (λ n. fetch_of octets (event_at a.place a.moment a.word n ∷ g ∷ events) p ≡ Some y)
        (sym a_is)
        (fetch_of-Asked octets p a.place a.moment a.word request.token mid request.params
        (number + 1) (g ∷ events) middle (is_same_peer-refl p) later
        (ap (λ (f : Fetch). f.peer) shown.shown) (ap (λ (f : Fetch). f.token) shown.shown)
        (ap (λ (f : Fetch). f.params) shown.shown) (ap (λ (f : Fetch). f.body) shown.shown)
        (ap (λ (f : Fetch). f.tag) shown.shown)
        ∙ (ap₂ (λ m w. Some (with_request (number + 1) m w mid (octets a.place p mid) middle)) at
        with
        ∙ ap (λ f. Some f) (sym y_is)))
