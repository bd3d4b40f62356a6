-- Networks, as an address and how many of its first bits count (RFC 4632 section 3.1, RFC 4291
-- section 2.3).
use Rattle.std.specs.Prelude.{ℕ, ◌+◌, ◌*◌, ◌-◌, ◌/◌, ◌^◌, Bool, true, false, ◌&&◌, List, ◌==◌}
use Rattle.std.specs.Prelude.{Option, Some, None, option_and_then, option_map, nat_le, slice_index}
use Rattle.std.specs.Prelude.{drop, position, take, if◌then◌else◌}
use Rattle.std.specs.List.{list_any}
use Rattle.std.specs.Net.Reader.{read_ipv4, read_ipv6, whole_value}
use Rattle.rd_base.specs.declared.peers.Host.{Host}
use Rattle.rd_base.specs.declared.peers.Host.TheVariants as host
use Rattle.line_model.specs.Numbers.{number_of}
use Rattle.hosting.specs.declared.prefixes.Network.{Network}
use Rattle.hosting.specs.Widths.{width_of}

-- Returns whether two numbers of `width` bits agree in the first `bits`.
abbrev pub agree : ℕ → ℕ → ℕ → ℕ → Bool
agree width bits a b =
    if bits == 0 then true else a / 2 ^ (width - bits) == b / 2 ^ (width - bits)

-- Return the numbers that the octets of an IPv4 address, and those of each half of an IPv6 address,
-- form.
abbrev pub v4_number : List ℕ → ℕ
v4_number octets =
    slice_index octets 0 * 2 ^ 24 + slice_index octets 1 * 2 ^ 16
    + (slice_index octets 2 * 2 ^ 8 + slice_index octets 3)

abbrev pub half : ℕ → List ℕ → ℕ
half at groups =
    slice_index groups at * 2 ^ 48 + slice_index groups (at + 1) * 2 ^ 32
    + (slice_index groups (at + 2) * 2 ^ 16 + slice_index groups (at + 3))

-- Returns whether an address is in a network, which has the same family.
abbrev pub holds : Host → ℕ → Host → Bool
holds (host.V4 a) bits (host.V4 b) = agree 32 bits (v4_number a) (v4_number b)
holds (host.V6 a) bits (host.V6 b) =
    if nat_le bits 64 then agree 64 bits (half 0 a) (half 0 b)
    else (half 0 a == half 0 b && agree 64 (bits - 64) (half 4 a) (half 4 b))
holds _ bits _ = false

abbrev pub is_in : Host → Network → Bool
is_in peer network = holds network.host network.bits peer

abbrev pub is_in_any : Host → List Network → Bool
is_in_any peer networks = list_any (is_in peer) networks

-- ---- as text

abbrev pub named : Option (List ℕ) → Option (List ℕ) → Option Host
named (Some v4) _ = Some (host.V4 v4)
named None (Some v6) = Some (host.V6 v6)
named None None = None

-- Returns the address that a text names, in any spelling (RFC 4291 section 2.2).
unfoldable pub host_of : List ℕ → Option Host
host_of text = named (whole_value (read_ipv4 text)) (whole_value (read_ipv6 text))

abbrev pub with_bits : Host → Option ℕ → Option Network
with_bits host bits = option_map (λ n. record { host = host; bits = n }) bits

-- Returns the network that has only this address.
abbrev pub alone : Host → Option Network
alone host = Some (record { host = host; bits = width_of host })

-- Returns the network of an address, a slash, and the number of bits that count.
abbrev pub slashed : List ℕ → ℕ → Option Network
slashed text at = option_and_then
    (λ host. with_bits host (number_of (width_of host) (drop (at + 1) text)))
    (host_of (take at text))

abbrev pub network_by : List ℕ → Option ℕ → Option Network
network_by text None = option_and_then alone (host_of text)
network_by text (Some at) = slashed text at

abbrev pub network_of : List ℕ → Option Network
network_of text = network_by text (position (λ octet. octet == 47) text)
