-- The fetch of a peer with one event more: what each note changes of it, and that other notes leave
-- it.
use Rattle.std.proofs.Common.{
  ◌≡◌,
  ℕ,
  ◌+◌,
  ◌*◌,
  ◌^◌,
  ◌==◌,
  ◌||◌,
  ◌&&◌,
  Bool,
  true,
  false,
  not,
  cond,
  List,
  [],
  ◌∷◌,
  ◌++◌,
  length,
  reverse,
  filter,
  flat_map,
  Option,
  Some,
  None,
  option_map,
  option_and_then,
  refl,
  sym,
  ap,
  subst,
  ◌∙◌,
  append-nil,
  append_assoc,
  add-one,
  arith,
}
use Rattle.std.specs.List.{cons_option, filter_map, list_any}
use Rattle.std.proofs.lemmas.Bool.{false≢true}
use Rattle.std.proofs.lemmas.List.Elements.{filter_map-append}
use Rattle.std.proofs.lemmas.Grind.{reverse_onto}
use Rattle.std.proofs.Math.Nat.{pow-suc, mul_assoc, mul-one}
use Rattle.rd_base.specs.declared.peers.Peer.{Peer}
use Rattle.rd_base.specs.declared.parameters.RegParams.{RegParams}
use Rattle.event_model.specs.declared.notes.Note.{Note}
use Rattle.event_model.specs.declared.notes.Note.TheVariants as note
use Rattle.event_model.specs.Same.{is_same_peer}
use Rattle.event_model.specs.Events.{Event, last_event, events_since, has_event}
use Rattle.event_model.specs.Flights.{OctetsSent, first_wait}
use Rattle.event_model.specs.Fetches.{
  is_start_of,
  is_request_to,
  is_resent_to,
  is_waiting_for,
  Request,
  request_noted,
  last_request,
  since_request,
  block_noted,
  gathered,
  collected,
  tag_of_first,
  resendings,
  is_waiting,
  Fetch,
  fetch_asked,
  fetch_of,
}
use Rattle.event_model.proofs.NotedLaws.{event_at}
use Rattle.exchange_core.specs.declared.resends.Again.TheVariants as again
use Rattle.simple_registration.specs.Running.{
  first_tag,
  with_block,
  with_request,
  awaiting,
  after_due,
  sent_first,
}

-- ---- what came

-- a block that came, or none
blocks_of : Option (List ℕ × Option (List ℕ)) → List (List ℕ × Option (List ℕ))
blocks_of None = []
blocks_of (Some block) = block ∷ []

-- with an event that starts no fetch of the peer
gathered-more : (q : Peer) (e : Event) (events : List Event)
    → is_start_of q e.note ≡ false
    → gathered q (e ∷ events) ≡ gathered q events ++ blocks_of (block_noted q e.note)
unfolding gathered events_since blocks_of
gathered-more q e events other =
    rw other
    (ap (filter_map (λ (x : Event). block_noted q x.note))
    (reverse_onto (events_since (is_start_of q) events) e [])
    ∙ (filter_map-append (λ (x : Event). block_noted q x.note)
    (reverse (events_since (is_start_of q) events)) (e ∷ [])
    ∙ ap (λ last. gathered q events ++ last) (by (block_noted q e.note))))
  where
    by : (b : Option (List ℕ × Option (List ℕ))) → cons_option b [] ≡ blocks_of b
    by None = refl
    by (Some block) = refl

pub gathered-none : (q : Peer) (e : Event) (events : List Event)
    → is_start_of q e.note ≡ false
    → block_noted q e.note ≡ None
    → gathered q (e ∷ events) ≡ gathered q events
unfolding blocks_of
gathered-none q e events other none =
    gathered-more q e events other ∙ rw none (append-nil (gathered q events))

pub gathered-some : (q : Peer) (e : Event) (events : List Event) (block : List ℕ × Option (List ℕ))
    → is_start_of q e.note ≡ false
    → block_noted q e.note ≡ Some block
    → gathered q (e ∷ events) ≡ gathered q events ++ block ∷ []
unfolding blocks_of
gathered-some q e events block other some = gathered-more q e events other ∙ rw some refl

pub gathered-start : (q : Peer) (e : Event) (events : List Event)
    → is_start_of q e.note ≡ true
    → gathered q (e ∷ events) ≡ []
unfolding gathered events_since
gathered-start q e events it = rw it refl

-- ---- other notes

-- the note says nothing of the fetch of a peer but that it may end it
pub record IsAside (q : Peer) (n : Note) : Type 0 where
  pub request : is_request_to q n ≡ false
  pub resent : is_resent_to q n ≡ false
  pub waiting : is_waiting_for q n ≡ false
  pub start : is_start_of q n ≡ false
  pub block : block_noted q n ≡ None

-- the fetch is shown the same by the same
shown_same : (octets : OctetsSent) (q : Peer) (later events : List Event)
    → resendings q later ≡ resendings q events
    → is_waiting q later ≡ is_waiting q events
    → gathered q later ≡ gathered q events
    → (o : Option Event)
    → option_and_then (λ e. option_map (fetch_asked octets later q e) (request_noted e.note)) o
    ≡ option_and_then (λ e. option_map (fetch_asked octets events q e) (request_noted e.note)) o
unfolding collected
shown_same octets q later events again waits came None = refl
shown_same octets q later events again waits came (Some e) = by (request_noted e.note)
  where
    same : (r : Request) → fetch_asked octets later q e r ≡ fetch_asked octets events q e r
    same r = rw (again, waits, came) refl

    by : (r : Option Request)
        → option_map (fetch_asked octets later q e) r ≡ option_map (fetch_asked octets events q e) r
    by None = refl
    by (Some r) = ap (λ f. Some f) (same r)

-- what is aside leaves the fetch
pub fetch_of-aside : (octets : OctetsSent) (q : Peer) (e : Event) (events : List Event)
    → IsAside q e.note
    → fetch_of octets (e ∷ events) q ≡ fetch_of octets events q
unfolding events_since
fetch_of-aside octets q e events aside =
    let last : last_request q (e ∷ events) ≡ last_request q events = rw aside.request refl in
    ap (option_and_then (λ (x : Event). option_map (fetch_asked octets (e ∷ events) q x)
    (request_noted x.note))) last
    ∙ shown_same octets q (e ∷ events) events again waits
    (gathered-none q e events aside.start aside.block) (last_request q events)
  where
    again : resendings q (e ∷ events) ≡ resendings q events
    again = rw aside.request (rw aside.resent refl)

    waits : is_waiting q (e ∷ events) ≡ is_waiting q events
    waits = rw aside.request (rw aside.waiting refl)

-- ---- notes of another peer

pub other_Asked : (p q : Peer) (token : List ℕ) (mid : ℕ) (params : RegParams) (number : ℕ)
    → is_same_peer p q ≡ false
    → IsAside q (note.Asked p token mid params number)
other_Asked p q token mid params number other = record {
  request = other;
  resent = refl;
  waiting = refl;
  start = by (number == 0);
  block = refl;
}
  where
    by : (b : Bool) → (b && is_same_peer p q) ≡ false
    by true = other
    by false = refl

pub other_Gathered : (p q : Peer) (octets : List ℕ) (tag : Option (List ℕ))
    → is_same_peer p q ≡ false
    → IsAside q (note.Gathered p octets tag)
other_Gathered p q octets tag other = record {
  request = refl;
  resent = refl;
  waiting = refl;
  start = refl;
  block = rw other refl;
}

pub other_Resent : (p q : Peer) → is_same_peer p q ≡ false → IsAside q (note.Resent p)
other_Resent p q other = record {
  request = refl;
  resent = other;
  waiting = refl;
  start = refl;
  block = refl;
}

pub other_Waiting : (p q : Peer) → is_same_peer p q ≡ false → IsAside q (note.Waiting p)
other_Waiting p q other = record {
  request = refl;
  resent = refl;
  waiting = other;
  start = refl;
  block = refl;
}

-- the end of a fetch leaves what was asked and what came
pub any_Ceased : (p q : Peer) → IsAside q (note.Ceased p)
any_Ceased p q = record {
  request = refl;
  resent = refl;
  waiting = refl;
  start = refl;
  block = refl;
}

-- ---- notes of its own

-- the fetch is shown with what changed
shown_changed : (octets : OctetsSent) (q : Peer) (later events : List Event)
    (change : Fetch → Fetch)
    → ((e : Event) (r : Request)
    → fetch_asked octets later q e r ≡ change (fetch_asked octets events q e r))
    → (o : Option Event)
    → option_and_then (λ e. option_map (fetch_asked octets later q e) (request_noted e.note)) o
    ≡ option_map change (option_and_then
    (λ e. option_map (fetch_asked octets events q e) (request_noted e.note)) o)
shown_changed octets q later events change changed None = refl
shown_changed octets q later events change changed (Some e) = by (request_noted e.note)
  where
    by : (r : Option Request)
        → option_map (fetch_asked octets later q e) r
        ≡ option_map change (option_map (fetch_asked octets events q e) r)
    by None = refl
    by (Some r) = ap (λ f. Some f) (changed e r)

-- a block came
pub fetch_of-Gathered : (octets : OctetsSent) (p : Peer) (place moment word : ℕ) (bytes : List ℕ)
    (tag : Option (List ℕ)) (events : List Event)
    → is_same_peer p p ≡ true
    → fetch_of octets (event_at place moment word (note.Gathered p bytes tag) ∷ events) p
    ≡ option_map (with_block bytes tag) (fetch_of octets events p)
unfolding collected events_since
fetch_of-Gathered octets p place moment word bytes tag events same =
    shown_changed octets p (event_at place moment word (note.Gathered p bytes tag) ∷ events) events
    (with_block bytes tag) changed (last_request p events)
  where
    came :
        gathered p (event_at place moment word (note.Gathered p bytes tag) ∷ events)
        ≡ gathered p events ++ (bytes, tag) ∷ []
    came =
        gathered-some p (event_at place moment word (note.Gathered p bytes tag)) events (bytes, tag)
        refl (rw same refl)

    first : (blocks : List (List ℕ × Option (List ℕ)))
        → tag_of_first (blocks ++ (bytes, tag) ∷ []) ≡ first_tag (tag_of_first blocks) tag
    first [] = refl
    first (block ∷ blocks) = refl

    body : (blocks : List (List ℕ × Option (List ℕ)))
        → flat_map (λ (block : List ℕ × Option (List ℕ)). block.0) (blocks ++ (bytes, tag) ∷ [])
        ≡ flat_map (λ (block : List ℕ × Option (List ℕ)). block.0) blocks ++ bytes
    body [] = append-nil bytes
    body (block ∷ blocks) =
        ap (λ rest. block.0 ++ rest) (body blocks)
        ∙ sym (append_assoc block.0 (flat_map (λ (b : List ℕ × Option (List ℕ)). b.0) blocks) bytes)

    changed : (x : Event) (r : Request)
        → fetch_asked octets (event_at place moment word (note.Gathered p bytes tag) ∷ events) p x r
        ≡ with_block bytes tag (fetch_asked octets events p x r)
    changed x r = rw came (rw (first (gathered p events), body (gathered p events)) refl)

-- the request was retransmitted
pub fetch_of-Resent : (octets : OctetsSent) (p : Peer) (place moment word : ℕ) (events : List Event)
    → is_same_peer p p ≡ true
    → fetch_of octets (event_at place moment word (note.Resent p) ∷ events) p
    ≡ option_map (after_due again.Send moment) (fetch_of octets events p)
unfolding collected events_since
fetch_of-Resent octets p place moment word events same =
    shown_changed octets p (event_at place moment word (note.Resent p) ∷ events) events
    (after_due again.Send moment) changed (last_request p events)
  where
    came : gathered p (event_at place moment word (note.Resent p) ∷ events) ≡ gathered p events
    came = gathered-none p (event_at place moment word (note.Resent p)) events refl refl

    wait : (first : Event) (others : List Event)
        → first_wait first.word * 2 ^ length (first ∷ others)
        ≡ first_wait first.word * 2 ^ length others * 2
    wait first others =
        ap (λ w. first_wait first.word * w) (pow-suc 2 (length others))
        ∙ sym (mul_assoc (first_wait first.word) (2 ^ length others) 2)

    changed : (x : Event) (r : Request)
        → fetch_asked octets (event_at place moment word (note.Resent p) ∷ events) p x r
        ≡ after_due again.Send moment (fetch_asked octets events p x r)
    changed x r =
        rw came (rw same
        (rw (wait x (resendings p events), add-one (length (resendings p events))) refl))

-- the request was acknowledged
pub fetch_of-Waiting : (octets : OctetsSent) (p : Peer) (place moment word : ℕ)
    (events : List Event)
    → is_same_peer p p ≡ true
    → fetch_of octets (event_at place moment word (note.Waiting p) ∷ events) p
    ≡ option_map awaiting (fetch_of octets events p)
unfolding collected events_since
fetch_of-Waiting octets p place moment word events same =
    shown_changed octets p (event_at place moment word (note.Waiting p) ∷ events) events awaiting
    changed (last_request p events)
  where
    came : gathered p (event_at place moment word (note.Waiting p) ∷ events) ≡ gathered p events
    came = gathered-none p (event_at place moment word (note.Waiting p)) events refl refl

    changed : (x : Event) (r : Request)
        → fetch_asked octets (event_at place moment word (note.Waiting p) ∷ events) p x r
        ≡ awaiting (fetch_asked octets events p x r)
    changed x r = rw came (rw same refl)

-- another block is asked for
pub fetch_of-Asked : (octets : OctetsSent) (p : Peer) (place moment word : ℕ) (token : List ℕ)
    (mid : ℕ) (params : RegParams) (number : ℕ) (events : List Event) (f : Fetch)
    → is_same_peer p p ≡ true
    → (number == 0) ≡ false
    → f.peer ≡ p
    → f.token ≡ token
    → f.params ≡ params
    → f.body ≡ collected p events
    → f.tag ≡ tag_of_first (gathered p events)
    → fetch_of octets (event_at place moment word (note.Asked p token mid params number) ∷ events) p
    ≡ Some (with_request number moment word mid (octets place p mid) f)
unfolding collected events_since
fetch_of-Asked octets p place moment word token mid params number events f same later peer_is
    token_is params_is body_is tag_is =
    rw same (rw (same, came) (rw (peer_is, token_is, params_is, body_is, tag_is)
    (rw (mul-one (first_wait word)) refl)))
  where
    came :
        gathered p (event_at place moment word (note.Asked p token mid params number) ∷ events)
        ≡ gathered p events
    came =
        gathered-none p (event_at place moment word (note.Asked p token mid params number)) events
        (rw later refl) refl

-- a fetch starts
pub fetch_of-start : (octets : OctetsSent) (p : Peer) (place moment word : ℕ) (token : List ℕ)
    (mid : ℕ) (params : RegParams) (events : List Event)
    → is_same_peer p p ≡ true
    → fetch_of octets (event_at place moment word (note.Asked p token mid params 0) ∷ events) p
    ≡ Some (record {
      peer = p;
      token = token;
      params = params;
      number = 0;
      asked = moment;
      waits =
          sent_first moment word mid (octets place p mid);
      acknowledged = false;
      body = [];
      tag = None;
    })
unfolding collected events_since
fetch_of-start octets p place moment word token mid params events same =
    rw same (rw (same, came) (rw (mul-one (first_wait word)) refl))
  where
    came : gathered p (event_at place moment word (note.Asked p token mid params 0) ∷ events) ≡ []
    came =
        gathered-start p (event_at place moment word (note.Asked p token mid params 0)) events same
