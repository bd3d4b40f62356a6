-- Peers as text: an address as RFC 5952 prints it, an IPv6 address in brackets, and the port.
use Rattle.std.specs.Prelude.{
  ◌≡◌,
  ℕ,
  ◌<◌,
  ◌≤◌,
  ◌^◌,
  ◌&&◌,
  List,
  length,
  slice_index,
  Option,
  Some,
  None,
  if◌then◌else◌,
  nat_le,
  bytes_eq,
  option_and_then,
}
use Rattle.std.specs.Net.Reader.{read_socket_v4, read_socket_v6, whole_value}
use Rattle.std.specs.Net.Text.{socket_text}
use Rattle.std.specs.declared.net.socket_addr.SocketAddr.{SocketAddr}
use Rattle.std.specs.declared.net.socket_addr.SocketAddr.TheVariants as socket
use Rattle.rd_base.specs.declared.peers.Host.{Host}
use Rattle.rd_base.specs.declared.peers.Host.TheVariants as host
use Rattle.rd_base.specs.declared.peers.Peer.{Peer}

-- The least port that a peer can have.
abbrev pub min_port : ℕ
min_port = 1

-- States that the numbers of an address fit: four octets, or eight groups of 16 bits (RFC 4291
-- section 2.2).
abbrev pub IsHost : Host → Type 0
IsHost (host.V4 octets) = (length octets ≡ 4) × ((k : ℕ) → slice_index octets k < 2 ^ 8)
IsHost (host.V6 groups) = (length groups ≡ 8) × ((k : ℕ) → slice_index groups k < 2 ^ 16)

-- A peer that can send a datagram: its numbers fit, and its port is not 0.
pub record IsPeer (peer : Peer) : Type 0 where
  pub host : IsHost peer.host
  pub port_low : min_port ≤ peer.port
  pub port_high : peer.port < 2 ^ 16

-- Returns the socket address of a host and a port, with no flow information and no zone.
abbrev pub socket_of : Host → ℕ → SocketAddr
socket_of (host.V4 octets) port =
    socket.V4 (record { ip = record { octets = octets }; port = port })
socket_of (host.V6 groups) port =
    socket.V6
    (record { ip = record { segments = groups }; port = port; flowinfo = 0; scope_id = 0 })

-- Returns a peer as it is printed, as 192.0.2.1:5683 or [2001:db8::1]:61616 (RFC 5952 sections 4 to
-- 6).
unfoldable pub peer_text : Peer → List ℕ
peer_text peer = socket_text (socket_of peer.host peer.port)

-- Returns the peer of an IPv4 reading, or else of an IPv6 reading.
abbrev pub named : Option (List ℕ × ℕ) → Option (List ℕ × ℕ × ℕ × ℕ) → Option Peer
named (Some v4) _ = Some (record { host = host.V4 v4.0; port = v4.1 })
named None (Some v6) = Some (record { host = host.V6 v6.0; port = v6.1 })
named None None = None

-- Returns the peer that a text names in any spelling that the standard library accepts.
unfoldable pub named_peer : List ℕ → Option Peer
named_peer text = named (whole_value (read_socket_v4 text)) (whole_value (read_socket_v6 text))

-- Returns a peer that a text names, if the text is as it is printed and its port is not 0.
abbrev pub if_printed : List ℕ → Peer → Option Peer
if_printed text peer =
    if nat_le min_port peer.port && bytes_eq text (peer_text peer) then Some peer else None

-- Returns the peer that a text prints, for a port of 1 to 65,535.
unfoldable pub peer_of : List ℕ → Option Peer
peer_of text = option_and_then (if_printed text) (named_peer text)

-- A text that prints this peer.
pub record IsPeerText (text : List ℕ) (peer : Peer) : Type 0 where
  pub fits : IsPeer peer
  pub printed : text ≡ peer_text peer
