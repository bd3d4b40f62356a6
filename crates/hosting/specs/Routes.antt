-- From which of the addresses of a server a datagram goes to a peer.
use Rattle.std.specs.Prelude.{Bool, true, false}
use Rattle.rd_base.specs.declared.peers.Host.{Host}
use Rattle.rd_base.specs.declared.peers.Host.TheVariants as host

-- Returns whether two addresses are of one family.
abbrev pub are_alike : Host → Host → Bool
are_alike (host.V4 a) (host.V4 b) = true
are_alike (host.V6 a) (host.V6 b) = true
are_alike _ _ = false
