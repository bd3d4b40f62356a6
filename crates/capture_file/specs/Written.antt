-- How many octets a written packet has.
use Rattle.std.specs.Prelude.{ℕ, ◌+◌}
use Rattle.capture_file.specs.declared.writers.Route.{Route}
use Rattle.capture_file.specs.declared.writers.Route.TheVariants as route

-- Returns how many octets its two addresses have.
abbrev pub address_octets : Route → ℕ
address_octets (route.V4 source destination) = 8
address_octets (route.V6 source destination) = 32

-- Returns how many octets its IP header has before the addresses.
abbrev pub header_octets : Route → ℕ
header_octets (route.V4 source destination) = 12
header_octets (route.V6 source destination) = 8

-- Returns how many octets a packet with a payload of this length has: its IP header, its UDP header
-- and the payload.
abbrev pub packet_octets : Route → ℕ → ℕ
packet_octets route payload = header_octets route + address_octets route + 8 + payload
