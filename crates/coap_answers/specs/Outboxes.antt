-- What an outbox shows: the datagrams that a step sends, with their peers.
use Rattle.std.specs.Prelude.{ℕ, ◌-◌, ◌*◌, ◌≤◌, List, length, map, take, drop}
use Rattle.std.specs.List.{AllByRecursion}
use Rattle.std.specs.Vec.{vec_capacity}
use Rattle.rd_base.specs.declared.peers.Peer.{Peer}
use Rattle.coap_message.specs.PartialMessages.{longest_datagram}
use Rattle.coap_answers.specs.declared.outbox.Span.{Span}
use Rattle.coap_answers.specs.declared.outbox.Datagrams.TheInside.{Inside}

-- The most datagrams that one step sends.
abbrev pub most_datagrams : ℕ
most_datagrams = 1_152

-- Returns the datagram at a position.
abbrev pub datagram_at : List ℕ → Span → Peer × List ℕ
datagram_at octets s = (s.peer, take (s.end - s.start) (drop s.start octets))

-- Returns all datagrams of an outbox, in order.
abbrev pub datagrams_shown : Inside → List (Peer × List ℕ)
datagrams_shown o = map (datagram_at o.octets.items) o.spans.items

-- States that a datagram lies within the first `size` octets.
abbrev pub LiesWithin : ℕ → Span → Type 0
LiesWithin size s = (s.start ≤ s.end) × (s.end ≤ size)

-- An outbox: each datagram lies within the octets, and there are no more than one step sends. The
-- room for all of these is reserved.
pub record IsOutbox (o : Inside) : Type 0 where
  pub room : 1_474_560 ≤ vec_capacity o.octets
  pub spans : most_datagrams ≤ vec_capacity o.spans
  pub few : length o.spans.items ≤ most_datagrams
  pub short : length o.octets.items ≤ longest_datagram * length o.spans.items
  pub within : AllByRecursion (LiesWithin (length o.octets.items)) o.spans.items
