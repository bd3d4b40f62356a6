-- The base of a registration that gives none (RFC 9176 section 5).
use Rattle.std.specs.Prelude.{ℕ, ◌==◌, List, [], ◌++◌, codes, decimal, if◌then◌else◌}
use Rattle.std.specs.Net.Text.{ipv4_text, ipv6_text}
use Rattle.rd_base.specs.declared.peers.Host.{Host}
use Rattle.rd_base.specs.declared.peers.Host.TheVariants as host
use Rattle.rd_base.specs.declared.peers.Peer.{Peer}

-- The port of CoAP, which a base leaves out (RFC 7252 section 6.1).
abbrev pub coap_port : ℕ
coap_port = 5683

-- Returns an address as a host, an IPv6 address in brackets (RFC 3986 section 3.2.2, RFC 5952).
abbrev pub host_text : Host → List ℕ
host_text (host.V4 octets) = ipv4_text octets
host_text (host.V6 groups) = codes "[" ++ (ipv6_text groups ++ codes "]")

-- Returns a colon and a port, or nothing for the port of CoAP.
abbrev pub port_text : ℕ → List ℕ
port_text port = if port == coap_port then [] else codes ":" ++ decimal port

-- Returns the base of what a peer registers without giving one.
unfoldable pub base_of : Peer → List ℕ
base_of peer = codes "coap://" ++ (host_text peer.host ++ port_text peer.port)
