-- Peers as addresses of a socket.
use Rattle.rd_base.specs.declared.peers.Host.TheVariants as host
use Rattle.rd_base.specs.declared.peers.Peer.{Peer}
use Rattle.std.specs.declared.net.socket_addr.SocketAddr.{SocketAddr}
use Rattle.std.specs.declared.net.socket_addr.SocketAddr.TheVariants as socket

-- Returns the peer at an address, without flow information and zone.
abbrev pub peer_at : SocketAddr → Peer
peer_at (socket.V4 address) = record { host = host.V4 address.ip.octets; port = address.port }
peer_at (socket.V6 address) = record { host = host.V6 address.ip.segments; port = address.port }
