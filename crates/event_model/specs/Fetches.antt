-- Fetches of simple registrations (RFC 9176 section 5.1): which run, what each has collected, and
-- until when it waits.
use Rattle.std.specs.Prelude.{
  ℕ,
  ◌+◌,
  ◌%◌,
  ◌^◌,
  Bool,
  false,
  not,
  ◌&&◌,
  ◌==◌,
  List,
  [],
  ◌∷◌,
  ◌++◌,
  reverse,
  filter,
  flat_map,
  filter_map,
  count_by,
  Option,
  Some,
  None,
  option_map,
  option_and_then,
  if◌then◌else◌,
}
use Rattle.std.specs.List.{list_any}
use Rattle.std.specs.Int.{bytes_high_first}
use Rattle.rd_base.specs.declared.peers.Peer.{Peer}
use Rattle.rd_base.specs.declared.parameters.RegParams.{RegParams}
use Rattle.event_model.specs.declared.limits.TheConstants.{MAX_FETCHES}
use Rattle.event_model.specs.declared.transmission.TheConstants.{MAX_TRANSMIT_WAIT}
use Rattle.event_model.specs.declared.notes.Note.{Note}
use Rattle.event_model.specs.declared.notes.Note.TheVariants as note
use Rattle.event_model.specs.Same.{is_same_peer}
use Rattle.event_model.specs.Events.{Event, last_event, has_event, events_since}
use Rattle.event_model.specs.Flights.{deadline, Sent, OctetsSent, retransmission}

-- The most fetches that run at a time.
abbrev pub max_fetches : ℕ
max_fetches = MAX_FETCHES

-- How long a fetch waits for a separate response, in milliseconds (RFC 7252 section 4.8.2,
-- MAX_TRANSMIT_WAIT).
abbrev pub response_wait : ℕ
response_wait = MAX_TRANSMIT_WAIT

-- Returns whether a note starts a fetch: it requests the block of number 0.
abbrev pub is_start : Note → Bool
is_start (note.Asked peer token mid params number) = number == 0
is_start _ = false

-- Returns whether a note starts the fetch of a peer.
abbrev pub is_start_of : Peer → Note → Bool
is_start_of peer (note.Asked p token mid params number) = number == 0 && is_same_peer p peer
is_start_of peer _ = false

-- Returns whether a note starts or ends the fetch of a peer.
abbrev pub starts_or_ends_fetch : Note → Peer → Bool
starts_or_ends_fetch (note.Asked p token mid params number) peer =
    number == 0 && is_same_peer p peer
starts_or_ends_fetch (note.Ceased p) peer = is_same_peer p peer
starts_or_ends_fetch _ peer = false

-- Returns the peer whose fetch the note starts.
abbrev pub started_by : Note → List Peer
started_by (note.Asked p token mid params number) = if number == 0 then p ∷ [] else []
started_by _ = []

-- Returns the peers whose fetch started and has not ended since, in the order of their starts.
unfoldable pub fetches : List Event → List Peer
fetches [] = []
fetches (e ∷ before) =
    filter (λ peer. not (starts_or_ends_fetch e.note peer)) (fetches before) ++ started_by e.note

-- Returns whether a fetch of the peer runs.
abbrev pub is_fetching : Peer → List Event → Bool
is_fetching peer events = list_any (is_same_peer peer) (fetches events)

-- Returns the token of the next fetch: the number of fetches with it, in eight octets.
unfoldable pub next_token : List Event → List ℕ
next_token events = bytes_high_first 8 (count_by (λ e. is_start e.note) events + 1)

-- Returns whether a note is a request of the fetch of a peer.
abbrev pub is_request_to : Peer → Note → Bool
is_request_to peer (note.Asked p token mid params number) = is_same_peer p peer
is_request_to peer _ = false

-- Returns whether a note says that the last request to a peer was retransmitted.
abbrev pub is_resent_to : Peer → Note → Bool
is_resent_to peer (note.Resent p) = is_same_peer p peer
is_resent_to peer _ = false

-- Returns whether a note says that the last request to a peer was acknowledged.
abbrev pub is_waiting_for : Peer → Note → Bool
is_waiting_for peer (note.Waiting p) = is_same_peer p peer
is_waiting_for peer _ = false

-- A request for a block: token, Message ID, the parameters of the registration, and the block's
-- number.
pub record Request : Type 0 where
  pub token : List ℕ
  pub mid : ℕ
  pub params : RegParams
  pub number : ℕ

-- Returns the request that a note makes.
abbrev pub request_noted : Note → Option Request
request_noted (note.Asked p token mid params number) =
    Some (record { token = token; mid = mid; params = params; number = number })
request_noted _ = None

-- Returns the request of an event, if there is one.
abbrev pub request_of : Option Event → Option Request
request_of None = None
request_of (Some e) = request_noted e.note

-- Returns the last request of the fetch of a peer, as an event.
abbrev pub last_request : Peer → List Event → Option Event
last_request peer events = last_event (is_request_to peer) events

-- Returns whether the request has this Message ID.
abbrev pub is_request_of : ℕ → Option Request → Bool
is_request_of mid None = false
is_request_of mid (Some request) = request.mid == mid

-- Returns whether the event made a request with this Message ID.
abbrev pub made_request : ℕ → Option Event → Bool
made_request mid None = false
made_request mid (Some e) = is_request_of mid (request_noted e.note)

-- Returns whether the last request of a running fetch of the peer has this Message ID.
abbrev pub is_last_request : Peer → ℕ → List Event → Bool
is_last_request peer mid events =
    is_fetching peer events && made_request mid (last_request peer events)

-- Returns the events since the last request of the fetch of a peer.
abbrev pub since_request : Peer → List Event → List Event
since_request peer events = events_since (is_request_to peer) events

-- Returns the block that arrived for the fetch of a peer: its octets, and its entity tag.
abbrev pub block_noted : Peer → Note → Option (List ℕ × Option (List ℕ))
block_noted peer (note.Gathered p octets tag) =
    if is_same_peer p peer then Some (octets, tag) else None
block_noted peer _ = None

-- Returns the blocks that arrived for the fetch of a peer since it started, in order.
unfoldable pub gathered : Peer → List Event → List (List ℕ × Option (List ℕ))
gathered peer events =
    filter_map (λ e. block_noted peer e.note) (reverse (events_since (is_start_of peer) events))

-- Returns what is collected of the body: these blocks, joined.
unfoldable pub collected : Peer → List Event → List ℕ
collected peer events = flat_map (λ block. block.0) (gathered peer events)

-- Returns the entity tag of the first block, if one arrived; the block may have had none.
abbrev pub tag_of_first : List (List ℕ × Option (List ℕ)) → Option (Option (List ℕ))
tag_of_first [] = None
tag_of_first (block ∷ blocks) = Some block.1

-- Returns the events that retransmitted the last request.
abbrev pub resendings : Peer → List Event → List Event
resendings peer events = filter (λ e. is_resent_to peer e.note) (since_request peer events)

-- Returns whether the last request was acknowledged, so that a separate response is to follow.
abbrev pub is_waiting : Peer → List Event → Bool
is_waiting peer events = has_event (is_waiting_for peer) (since_request peer events)

-- Returns the moment until which the fetch of a peer waits after an event that made its last
-- request.
unfoldable pub fetch_deadline : Peer → Event → List Event → ℕ
fetch_deadline peer request events =
    if is_waiting peer events
    then request.moment + response_wait
    else deadline request (resendings peer events)

-- Returns how many fetches started, modulo 2^64.
unfoldable pub fetches_started : List Event → ℕ
fetches_started events = count_by (λ e. is_start e.note) events % 2 ^ 64

-- A fetch that runs: its peer, and its last request. Of that it has the token, the parameters of
-- the registration, the block's number, the moment, and the message that waits. Then whether the
-- request was acknowledged, what is collected, and the entity tag of the first block.
pub record Fetch : Type 0 where
  pub peer : Peer
  pub token : List ℕ
  pub params : RegParams
  pub number : ℕ
  pub asked : ℕ
  pub waits : Sent
  pub acknowledged : Bool
  pub body : List ℕ
  pub tag : Option (Option (List ℕ))

-- Returns the fetch of a peer, by the event of its last request.
abbrev pub fetch_asked : OctetsSent → List Event → Peer → Event → Request → Fetch
fetch_asked octets events peer e request = record {
  peer = peer;
  token = request.token;
  params = request.params;
  number = request.number;
  asked = e.moment;
  waits = record {
    mid = request.mid;
    octets = octets e.place peer request.mid;
    resend = retransmission e (resendings peer events);
  };
  acknowledged = is_waiting peer events;
  body = collected peer events;
  tag = tag_of_first (gathered peer events);
}

-- Returns the fetch of a peer, if it made a request.
abbrev pub fetch_of : OctetsSent → List Event → Peer → Option Fetch
fetch_of octets events peer =
    option_and_then (λ e. option_map (fetch_asked octets events peer e) (request_noted e.note))
    (last_request peer events)

-- Returns the fetches that run, in the order in which they started.
unfoldable pub fetches_running : OctetsSent → List Event → List Fetch
fetches_running octets events = filter_map (fetch_of octets events) (fetches events)
