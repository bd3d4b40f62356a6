-- IPv4 addresses as IPv6 addresses that map them (RFC 4291 section 2.5.5.2).
use Rattle.std.specs.Prelude.{◌≡◌, drop}
use Rattle.std.specs.Net.Addr.{IsIpv4Mapped, embedded_segments, octets_of}
use Rattle.rd_base.specs.declared.peers.Host.{Host}
use Rattle.rd_base.specs.declared.peers.Host.TheVariants as host

-- States that a mapped address became the one that it maps, and that any other did not change.
abbrev pub IsPlainOf : Host → Host → Type 0
IsPlainOf (host.V4 octets) plain = plain ≡ host.V4 octets
IsPlainOf (host.V6 groups) (host.V4 octets) =
    IsIpv4Mapped groups × (octets ≡ octets_of (drop 6 groups))
IsPlainOf (host.V6 groups) (host.V6 plain) = (IsIpv4Mapped groups → ⊥) × (plain ≡ groups)

-- Returns the IPv6 address that maps an IPv4 address, and any other address as it is.
abbrev pub mapped : Host → Host
mapped (host.V4 octets) = host.V6 (embedded_segments 0xffff (record { octets = octets }))
mapped (host.V6 groups) = host.V6 groups
