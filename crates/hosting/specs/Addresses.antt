-- Addresses to listen at, read from text: in any spelling, with a port.
use Rattle.std.specs.Prelude.{ℕ, ◌+◌, List, [], ◌∷◌, Option, Some, None, ◌==◌, drop, position}
use Rattle.std.specs.Prelude.{nat_le, option_and_then, take, if◌then◌else◌}
use Rattle.line_model.specs.Numbers.{number_of}
use Rattle.rd_base.specs.declared.peers.Host.{Host}
use Rattle.rd_base.specs.declared.peers.Host.TheVariants as host
use Rattle.rd_base.specs.declared.peers.Peer.{Peer}
use Rattle.hosting.specs.Networks.{host_of}

-- Returns the number, if it is at least 1.
abbrev pub from_one : ℕ → Option ℕ
from_one n = if nat_le 1 n then Some n else None

abbrev pub port_of : List ℕ → Option ℕ
port_of [] = None
port_of (c ∷ digits) =
    if c == 58 then option_and_then from_one (number_of 65535 digits) else None

-- Returns the address, if it is an IPv4 address.
abbrev pub only_v4 : Option Host → Option Host
only_v4 None = None
only_v4 (Some (host.V4 octets)) = Some (host.V4 octets)
only_v4 (Some (host.V6 groups)) = None

abbrev pub only_v6 : Option Host → Option Host
only_v6 None = None
only_v6 (Some (host.V4 octets)) = None
only_v6 (Some (host.V6 groups)) = Some (host.V6 groups)

abbrev pub with_port : Option Host → Option ℕ → Option Peer
with_port None port = None
with_port (Some host) None = None
with_port (Some host) (Some port) = Some (record { host = host; port = port })

-- Returns the IPv4 address that a text names, with this port.
abbrev pub v4_at : List ℕ → Option ℕ → Option Peer
v4_at text None = None
v4_at text (Some at) = with_port (only_v4 (host_of (take at text))) (port_of (drop at text))

abbrev pub v4_address : List ℕ → Option Peer
v4_address text = v4_at text (position (λ octet. octet == 58) text)

-- Returns the IPv6 address that a text names before a closing bracket, with this port.
abbrev pub v6_at : List ℕ → Option ℕ → Option Peer
v6_at text None = None
v6_at text (Some at) =
    with_port (only_v6 (host_of (take at text))) (port_of (drop (at + 1) text))

abbrev pub v6_address : List ℕ → Option Peer
v6_address text = v6_at text (position (λ octet. octet == 93) text)

-- Returns the address and the port that a text names, as 192.0.2.1:5683 or [2001:db8::1]:5683. The
-- address may have any spelling (RFC 4291 section 2.2), but no zone.
abbrev pub address_of : List ℕ → Option Peer
address_of [] = None
address_of (c ∷ rest) = if c == 91 then v6_address rest else v4_address (c ∷ rest)
