-- A peer is read exactly of the text that prints it.
use Rattle.std.proofs.Common.{
  ◌≡◌,
  ℕ,
  ◌≤◌,
  ◌<◌,
  ◌^◌,
  ◌&&◌,
  List,
  [],
  Some,
  None,
  nat_le,
  bytes_eq,
  option_and_then,
  ◌∷◌,
  decimal,
  refl,
  ap,
  subst,
  inl,
  ◌∙◌,
  append_assoc,
}
use Rattle.std.proofs.lemmas.Option.{option_and_then_some}
use Rattle.std.specs.Net.Reader.{
  read_number,
  read_octet,
  read_ipv4,
  read_socket_v4,
  read_socket_v6,
  whole_value,
}
use Rattle.std.specs.Net.Text.{ipv4_text, ipv6_text, socket_v4_text, socket_v6_text}
use Rattle.std.specs.declared.net.socket_addr.SocketAddrV4.{SocketAddrV4}
use Rattle.std.specs.declared.net.socket_addr.SocketAddrV6.{SocketAddrV6}
use Rattle.std.specs.Net.Grammar.{IsSocketV4Text, IsSocketV6Text}
use Rattle.std.proofs.NetLemmas.Texts.{IsDotted-ipv4_text, IsColonHex-ipv6_text, IsPortText-decimal}
use Rattle.std.proofs.NetLemmas.Sockets.{read_socket_v4_complete, read_socket_v6_complete}
use Rattle.rd_base.specs.declared.peers.Host.{Host}
use Rattle.rd_base.specs.declared.peers.Host.TheVariants as host
use Rattle.rd_base.specs.declared.peers.Peer.{Peer}
use Rattle.rd_base.specs.Peers.{min_port}
use Rattle.rd_base.specs.Peers.{IsHost, IsPeer, peer_text, named_peer, named, if_printed, peer_of}
use Rattle.rd_base.proofs.lemmas.Choices.{let_through, chosen_true}
use Rattle.rd_base.proofs.lemmas.Booleans.{both_parts, both_from}

-- what is read is the peer whose text it is, and its port is not 0
pub peer_of-found : (text : List ℕ) (peer : Peer)
    → peer_of text ≡ Some peer
    → (text ≡ peer_text peer) × (min_port ≤ peer.port)
unfolding peer_of
peer_of-found text peer e =
    option_and_then_some (if_printed text) (named_peer text) peer e λ p read shown.
    let (test, same) =
    let_through (nat_le min_port p.port && bytes_eq text (peer_text p)) p peer shown in
    let (low, printed) = both_parts min_port p.port text (peer_text p) test in
    (printed ∙ ap (λ q. peer_text q) same, subst (λ q. min_port ≤ q.port) same low)

-- an IPv4 address and a port
abbrev pub v4_of : List ℕ → ℕ → SocketAddrV4
v4_of octets port = record { ip = record { octets = octets }; port = port }

-- an IPv6 address and a port
abbrev pub v6_of : List ℕ → ℕ → SocketAddrV6
v6_of groups port = record {
  ip = record { segments = groups };
  port = port;
  flowinfo = 0;
  scope_id = 0;
}

-- each is spelled by its text
v4_spelled : (octets : List ℕ) (port : ℕ)
    → IsHost (host.V4 octets)
    → port < 2 ^ 16
    → IsSocketV4Text (socket_v4_text (v4_of octets port)) (v4_of octets port)
v4_spelled octets port fits small = (
  ipv4_text octets,
  58 ∷ decimal port,
  append_assoc (ipv4_text octets) (58 ∷ []) (decimal port),
  IsDotted-ipv4_text octets fits.0 fits.1,
  IsPortText-decimal port small,
)

v6_spelled : (groups : List ℕ) (port : ℕ)
    → IsHost (host.V6 groups)
    → port < 2 ^ 16
    → IsSocketV6Text (socket_v6_text (v6_of groups port)) (v6_of groups port)
v6_spelled groups port fits small = record {
  ip = ipv6_text groups;
  scope = [];
  port = 58 ∷ decimal port;
  spelled = simp append_assoc;
  ip_text = IsColonHex-ipv6_text groups fits.0 fits.1;
  scope_text = inl (refl, refl);
  port_text = IsPortText-decimal port small;
  no_flowinfo = refl;
}

-- an IPv6 text begins with a bracket, and no IPv4 address does
v6_not_v4 : (rest : List ℕ) → read_socket_v4 (91 ∷ rest) ≡ None
unfolding read_number read_octet read_ipv4 read_socket_v4
v6_not_v4 rest = refl

-- the printed text of a host and a port names them
pub named_peer-peer_text : (h : Host) (port : ℕ)
    → IsHost h
    → port < 2 ^ 16
    → named_peer (peer_text (record { host = h; port = port }))
    ≡ Some (record { host = h; port = port })
unfolding named_peer peer_text
named_peer-peer_text (host.V4 octets) port fits small =
    let text = socket_v4_text (v4_of octets port) in
    ap (λ r. named (whole_value r) (whole_value (read_socket_v6 text)))
    (read_socket_v4_complete text (v4_of octets port) (v4_spelled octets port fits small))
named_peer-peer_text (host.V6 groups) port fits small =
    let text = socket_v6_text (v6_of groups port) in
    ap (λ r. named (whole_value (read_socket_v4 text)) (whole_value r))
    (read_socket_v6_complete text (v6_of groups port) (v6_spelled groups port fits small))
    ∙ ap (λ r. named (whole_value r) (Some (groups, port, 0, 0))) (v6_not_v4 _)

-- the text of a peer is read as that peer
pub peer_of-peer_text : (peer : Peer) → IsPeer peer → peer_of (peer_text peer) ≡ Some peer
unfolding peer_of
peer_of-peer_text peer fits =
    let read = named_peer-peer_text peer.host peer.port fits.host fits.port_high in
    ap (option_and_then (if_printed (peer_text peer))) read
    ∙ chosen_true (nat_le min_port peer.port && bytes_eq (peer_text peer) (peer_text peer))
    (Some peer) None
    (both_from min_port peer.port (peer_text peer) (peer_text peer) fits.port_low refl)
