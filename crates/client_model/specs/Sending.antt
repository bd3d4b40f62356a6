-- What a client sends for a request (RFC 7252 section 4.2).
use Rattle.std.specs.Prelude.{ℕ, List, [], ◌∷◌, Option, Some, None, if◌then◌else◌}
use Rattle.rd_base.specs.declared.peers.Peer.{Peer}
use Rattle.message_model.specs.declared.messages.Kind4.{Kind4}
use Rattle.message_model.specs.declared.messages.Kind4.TheVariants as kind
use Rattle.message_model.specs.Message.{Message}
use Rattle.message_model.specs.Reading.{reading}
use Rattle.message_model.specs.Spelling.{spelling}
use Rattle.message_model.specs.Codes as codes_of
use Rattle.client_model.specs.declared.events.Event.{Event}
use Rattle.client_model.specs.declared.events.Event.TheVariants as event
use Rattle.client_model.specs.declared.outcomes.Outcome.{Outcome}
use Rattle.client_model.specs.Requests.{Asked}
use Rattle.client_model.specs.Verdicts.{
  readable,
  datagram_decides,
  is_quiet,
  is_sent_again,
  sent_again,
}

-- A datagram to a peer.
abbrev pub Sent : Type 0
Sent = Peer × List ℕ

-- Returns the empty acknowledgement of a Message ID (RFC 7252 section 4.2).
unfoldable pub empty_acknowledgement : ℕ → List ℕ
empty_acknowledgement mid = spelling (record {
  kind = kind.Ack;
  code = codes_of.empty;
  mid = mid;
  token = [];
  options = [];
  payload = [];
})

-- Returns what acknowledges a message: an empty acknowledgement if it is confirmable.
abbrev pub acknowledgement : Kind4 → ℕ → Option (List ℕ)
acknowledgement kind.Con mid = Some (empty_acknowledgement mid)
acknowledgement _ mid = None

-- Returns what acknowledges a message, if there is one.
abbrev pub acknowledgement_in : Option Message → Option (List ℕ)
acknowledgement_in None = None
acknowledgement_in (Some m) = acknowledgement m.kind m.mid

-- Returns these octets to a peer, if there are some.
abbrev pub to_peer : Peer → Option (List ℕ) → List Sent
to_peer peer None = []
to_peer peer (Some octets) = (peer, octets) ∷ []

-- Returns what is sent for a datagram that decides the request: what acknowledges it.
abbrev pub sent_for_datagram : Peer → List ℕ → Option Outcome → List Sent
sent_for_datagram peer octets None = []
sent_for_datagram peer octets (Some o) =
    to_peer peer (acknowledgement_in (readable (reading octets)))

-- Returns what is sent at an event after those before it, for a request with these octets. This is
-- what acknowledges an answer, and the request again at its deadlines.
abbrev pub sent_for : Asked → List ℕ → List Event → Event → List Sent
sent_for a octets before (event.Came now peer datagram) =
    sent_for_datagram peer datagram (datagram_decides a.request peer datagram)
sent_for a octets before (event.Tick now) =
    if is_sent_again a (is_quiet a before) now.0 (sent_again a before)
    then (a.request.to, octets) ∷ []
    else []
