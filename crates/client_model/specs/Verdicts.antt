-- The verdict of the events of a request: that of the first event that decides it (RFC 7252
-- sections 4.2 and 5.3.2, RFC 9176 section 5). All lists of events have the newest first.
use Rattle.std.specs.Prelude.{
  ℕ,
  ◌+◌,
  ◌*◌,
  ◌^◌,
  Bool,
  true,
  false,
  ◌&&◌,
  ◌==◌,
  nat_le,
  nat_lt,
  is_none,
  List,
  [],
  ◌∷◌,
  length,
  Option,
  Some,
  None,
  Result,
  Ok,
  Err,
  bytes_eq,
  if◌then◌else◌,
}
use Rattle.std.specs.List.{list_any, list_all}
use Rattle.std.specs.Str.{is_utf8}
use Rattle.rd_base.specs.declared.peers.Peer.{Peer}
use Rattle.message_model.specs.declared.messages.Kind4.{Kind4}
use Rattle.message_model.specs.declared.messages.Kind4.TheVariants as kind
use Rattle.message_model.specs.declared.messages.Role.{Role}
use Rattle.message_model.specs.declared.messages.Role.TheVariants as role
use Rattle.message_model.specs.declared.messages.Unread.{Unread}
use Rattle.message_model.specs.Message.{Message, role_of}
use Rattle.message_model.specs.Reading.{reading}
use Rattle.message_model.specs.Codes as codes_of
use Rattle.message_model.specs.OptionTable.{first_bad_option}
use Rattle.message_model.specs.Request.{locations_in}
use Rattle.event_model.specs.declared.transmission.TheConstants.{MAX_TRANSMIT_WAIT}
use Rattle.event_model.specs.Same.{is_same_peer}
use Rattle.event_model.specs.Flights.{max_again, first_wait}
use Rattle.client_model.specs.declared.asks.Purpose.{Purpose}
use Rattle.client_model.specs.declared.asks.Purpose.TheVariants as purpose
use Rattle.client_model.specs.declared.events.Event.{Event}
use Rattle.client_model.specs.declared.events.Event.TheVariants as event
use Rattle.client_model.specs.declared.outcomes.Outcome.{Outcome}
use Rattle.client_model.specs.declared.outcomes.Outcome.TheVariants as outcome
use Rattle.client_model.specs.Requests.{Request, Asked}

-- ---- a datagram

-- Returns the message that was read, if one was.
abbrev pub readable : Result Message Unread → Option Message
readable (Ok m) = Some m
readable (Err fault) = None

-- Returns whether a message may have this Message ID. An acknowledgement has that of the request,
-- and another message may have any (RFC 7252 section 5.2).
abbrev pub has_mid_of : Kind4 → ℕ → ℕ → Bool
has_mid_of kind.Ack mid asked = mid == asked
has_mid_of _ mid asked = true

-- Returns whether a response is the answer to the request (RFC 7252 sections 5.3.2 and 5.4.1).
abbrev pub is_answer : Request → Message → Bool
is_answer r m =
    bytes_eq m.token r.token
    && has_mid_of m.kind m.mid r.mid
    && is_none (first_bad_option m.options)

-- Returns whether a path has a segment, and each segment is text (RFC 7252 section 5.10.7).
abbrev pub is_path : List (List ℕ) → Bool
is_path [] = false
is_path (segment ∷ segments) = list_all is_utf8 (segment ∷ segments)

-- Returns the outcome of a request by an answer with a code and the path of a location (RFC 9176
-- sections 5, 5.3.1 and 5.3.2).
abbrev pub answered : Purpose → Peer → ℕ → List (List ℕ) → Outcome
answered purpose.Register to code path =
    if code == codes_of.created && is_path path
    then outcome.Located (record { to = to; path = path })
    else outcome.Refused code
answered purpose.Refresh to code path =
    if code == codes_of.changed then outcome.Done else outcome.Refused code
answered purpose.Remove to code path =
    if code == codes_of.deleted then outcome.Done else outcome.Refused code

-- Returns the outcome that a message of the directory decides, if it decides one.
abbrev pub decided_by : Role → Request → Message → Option Outcome
decided_by role.Response r m =
    if is_answer r m then Some (answered r.purpose r.to m.code (locations_in m)) else None
decided_by role.Reset r m = if m.mid == r.mid then Some outcome.Reset else None
decided_by _ r m = None

-- Returns whether a message of the directory acknowledges the request (RFC 7252 section 4.2).
abbrev pub quiets_by : Role → Request → Message → Bool
quiets_by role.Acknowledgement r m = m.mid == r.mid
quiets_by _ r m = false

-- Returns the outcome that what was read of a datagram decides.
abbrev pub decided_in : Request → Option Message → Option Outcome
decided_in r None = None
decided_in r (Some m) = decided_by (role_of m.kind m.code) r m

-- Returns whether what was read of a datagram acknowledges the request.
abbrev pub quiets_in : Request → Option Message → Bool
quiets_in r None = false
quiets_in r (Some m) = quiets_by (role_of m.kind m.code) r m

-- Returns the outcome that a datagram of a peer decides.
abbrev pub datagram_decides : Request → Peer → List ℕ → Option Outcome
datagram_decides r peer octets =
    if is_same_peer peer r.to then decided_in r (readable (reading octets)) else None

-- Returns whether a datagram of a peer acknowledges the request.
abbrev pub datagram_quiets : Request → Peer → List ℕ → Bool
datagram_quiets r peer octets =
    is_same_peer peer r.to && quiets_in r (readable (reading octets))

-- ---- retransmission

-- Returns whether an event acknowledges the request.
abbrev pub quiets : Asked → Event → Bool
quiets a (event.Came now peer octets) = datagram_quiets a.request peer octets
quiets a (event.Tick now) = false

-- Returns whether the request was acknowledged, so that it is not retransmitted (RFC 7252 section
-- 4.2).
unfoldable pub is_quiet : Asked → List Event → Bool
is_quiet a events = list_any (quiets a) events

-- Returns the moment at which a request was last sent that was retransmitted at these moments, the
-- newest first.
abbrev pub last_sent : Asked → List ℕ → ℕ
last_sent a [] = a.at
last_sent a (last ∷ before) = last

-- Returns the moment at which its timeout ends. The timeout doubles with each retransmission, and
-- counts from the last sending (RFC 7252 section 4.2).
unfoldable pub wait_end : Asked → List ℕ → ℕ
wait_end a sent = last_sent a sent + first_wait a.word * 2 ^ length sent

-- Returns whether a tick retransmits the request, which was retransmitted at these moments before.
-- It was not acknowledged, a retransmission is left, and the timeout has ended.
abbrev pub is_sent_again : Asked → Bool → ℕ → List ℕ → Bool
is_sent_again a true now sent = false
is_sent_again a false now sent = nat_lt (length sent) max_again && nat_le (wait_end a sent) now

-- Returns the moments of its retransmissions, with one more event.
abbrev pub sent_with : Asked → Bool → Event → List ℕ → List ℕ
sent_with a quiet (event.Came now peer octets) sent = sent
sent_with a quiet (event.Tick now) sent =
    if is_sent_again a quiet now.0 sent then now.0 ∷ sent else sent

-- Returns the moments of its retransmissions, the newest first.
unfoldable pub sent_again : Asked → List Event → List ℕ
sent_again a [] = []
sent_again a (e ∷ before) = sent_with a (is_quiet a before) e (sent_again a before)

-- ---- the verdict

-- Returns the outcome that a tick decides. A request that was acknowledged is silent in the end
-- (RFC 7252 section 4.8.2). Another is given up when the timeout of its last retransmission ends
-- (RFC 7252 section 4.2).
abbrev pub tick_decides : Asked → Bool → ℕ → List ℕ → Option Outcome
tick_decides a true now sent =
    if nat_le (a.at + MAX_TRANSMIT_WAIT) now then Some outcome.Silent else None
tick_decides a false now sent =
    if nat_le max_again (length sent) && nat_le (wait_end a sent) now
    then Some outcome.GaveUp
    else None

-- Returns the outcome that an event decides after those before it.
abbrev pub decides : Asked → List Event → Event → Option Outcome
decides a before (event.Came now peer octets) = datagram_decides a.request peer octets
decides a before (event.Tick now) =
    tick_decides a (is_quiet a before) now.0 (sent_again a before)

-- Returns the first of two if there is one, and otherwise the second.
abbrev pub or_later : Option Outcome → Option Outcome → Option Outcome
or_later (Some o) later = Some o
or_later None later = later

-- Returns the verdict of a list of events: that of the first one that decides.
unfoldable pub verdict : Asked → List Event → Option Outcome
verdict a [] = None
verdict a (e ∷ before) = or_later (verdict a before) (decides a before e)
