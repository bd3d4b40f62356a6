-- The arguments of the command line.
use Rattle.std.specs.Prelude.{
  ℕ,
  List,
  [],
  ◌∷◌,
  ◌++◌,
  codes,
  Option,
  Some,
  None,
  Bool,
  false,
  bytes_eq,
  if◌then◌else◌,
}
use Rattle.rd_base.specs.declared.peers.Host.{Host}
use Rattle.rd_base.specs.declared.peers.Host.TheVariants as host
use Rattle.rd_base.specs.declared.peers.Peer.{Peer}
use Rattle.rd_base.specs.Peers.{peer_of}
use Rattle.install_list.specs.declared.words.Order.{Order}
use Rattle.install_list.specs.declared.words.Verb.{Verb}
use Rattle.install_list.specs.declared.words.Verb.TheVariants as verb

-- Returns the verb that an argument names.
unfoldable pub verb_of : List ℕ → Option Verb
verb_of word =
    if bytes_eq word (codes "register") then Some verb.Register
    else if bytes_eq word (codes "refresh") then Some verb.Refresh
    else if bytes_eq word (codes "remove") then Some verb.Remove
    else if bytes_eq word (codes "keep") then Some verb.Keep
    else None

-- Returns the address of a peer, if there is one.
abbrev pub host_in : Option Peer → Option Host
host_in None = None
host_in (Some peer) = Some peer.host

-- Returns the address of the peer that three texts spell together (RFC 5952).
abbrev pub host_between : List ℕ → List ℕ → List ℕ → Option Host
host_between front text end = host_in (peer_of ((front ++ text) ++ end))

-- Returns the first of two addresses, or else the second.
abbrev pub host_or : Option Host → Option Host → Option Host
host_or None other = other
host_or (Some host) other = Some host

-- Returns the address of either family that a text spells.
abbrev pub host_of : List ℕ → Option Host
host_of text =
    host_or (host_between [] text (codes ":1")) (host_between (codes "[") text (codes "]:1"))

-- Returns whether an address is the unspecified address of IPv6 (RFC 4291 section 2.5.2), which
-- means all addresses of both families.
unfoldable pub is_any : Host → Bool
is_any (host.V4 octets) = false
is_any (host.V6 groups) = bytes_eq groups (0 ∷ 0 ∷ 0 ∷ 0 ∷ 0 ∷ 0 ∷ 0 ∷ 0 ∷ [])

-- Returns the address from which the program sends, or None for all addresses of both families.
abbrev pub from_of : Host → Option Host
from_of h = if is_any h then None else Some h

-- Returns the order of a verb.
abbrev pub order_any : Option Verb → Option Order
order_any None = None
order_any (Some v) = Some (record { verb = v; from = None })

-- Returns the order of a verb with an address.
abbrev pub order_from : Option Verb → Option Host → Option Order
order_from None h = None
order_from (Some v) None = None
order_from (Some v) (Some h) = Some (record { verb = v; from = from_of h })

-- Returns the order of an option, its value and a verb.
unfoldable pub order_by : List ℕ → List ℕ → List ℕ → Option Order
order_by option address word =
    if bytes_eq option (codes "--from") then order_from (verb_of word) (host_of address)
    else None

-- Returns the order of arguments: a verb, which may follow `--from` and an address.
abbrev pub order_of : List (List ℕ) → Option Order
order_of [] = None
order_of (word ∷ []) = order_any (verb_of word)
order_of (first ∷ second ∷ []) = None
order_of (option ∷ address ∷ word ∷ []) = order_by option address word
order_of (first ∷ second ∷ third ∷ fourth ∷ more) = None
