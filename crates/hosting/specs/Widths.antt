-- How many bits an address has.
use Rattle.std.specs.Prelude.{ℕ}
use Rattle.rd_base.specs.declared.peers.Host.{Host}
use Rattle.rd_base.specs.declared.peers.Host.TheVariants as host

abbrev pub width_of : Host → ℕ
width_of (host.V4 octets) = 32
width_of (host.V6 groups) = 128
