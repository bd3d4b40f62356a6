-- Peers that stand for connections.
use Rattle.std.specs.Prelude.{◌≡◌, ℕ, ◌+◌, ◌*◌, List, [], ◌∷◌, take}
use Rattle.rd_base.specs.declared.peers.Host.{Host}
use Rattle.rd_base.specs.declared.peers.Host.TheVariants as host
use Rattle.rd_base.specs.declared.peers.Peer.{Peer}

-- Returns the number that the groups of an address spell, of 16 bits each, the most significant
-- first.
abbrev pub spelled_by : ℕ → List ℕ → ℕ
spelled_by high [] = high
spelled_by high (group ∷ groups) = spelled_by (high * 65536 + group) groups

-- Returns the number in the last 64 bits of an address.
abbrev pub number_in : Host → ℕ
number_in (host.V6 (a ∷ b ∷ c ∷ d ∷ groups)) = spelled_by 0 groups
number_in _ = 0

-- Returns the number of the connection that a peer stands for.
abbrev pub number_of : Peer → ℕ
number_of peer = number_in peer.host

-- The first 64 bits of the addresses that are never assigned to a device (RFC 6666).
abbrev pub discarded : List ℕ
discarded = 256 ∷ 0 ∷ 0 ∷ 0 ∷ []

-- States that an address is one of those.
abbrev pub IsDiscarded : Host → Type 0
IsDiscarded (host.V6 groups) = take 4 groups ≡ discarded
IsDiscarded (host.V4 octets) = ⊥

-- A peer that no device has: neither its address nor its port is that of a device.
pub record IsNoDevice (peer : Peer) : Type 0 where
  pub address : IsDiscarded peer.host
  pub port : peer.port ≡ 0
