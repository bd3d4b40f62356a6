-- The possible results of a call on a link, and what then holds of the link.
use Rattle.std.specs.Prelude.{◌≡◌, ℕ, ◌<◌, ◌≤◌, List, [], ◌∷◌, ◌++◌, length, take, Option, ⊤}
use Rattle.rd_base.specs.Outside.{Rose}
use Rattle.rd_base.specs.declared.peers.Peer.{Peer}
use Rattle.udp_link.specs.declared.links.TheConstants.{MAX_DATAGRAM}
use Rattle.udp_link.specs.declared.links.Came.{Came}
use Rattle.udp_link.specs.declared.links.Came.TheVariants as came
use Rattle.udp_link.specs.declared.links.LinkCall.{LinkCall}
use Rattle.udp_link.specs.declared.links.Went.{Went}
use Rattle.udp_link.specs.declared.links.Went.TheVariants as went
use Rattle.udp_link.specs.Told.{WhereTold}

-- A datagram: the peer that it comes from or goes to, and its octets.
abbrev pub Datagram : Type 0
Datagram = Peer × List ℕ

-- States that no datagram that is delivered is longer than the limit.
abbrev pub IsWithinLimit : Came → Type 0
IsWithinLimit (came.Datagram peer n) = n ≤ MAX_DATAGRAM
IsWithinLimit came.TooLong = ⊤
IsWithinLimit came.Nothing = ⊤
IsWithinLimit came.Failed = ⊤

-- States that a receive takes the first datagram off those that are to come. It delivers it whole,
-- or the datagram is longer than the limit and lost. It returns `Nothing` only if none is left. A
-- failure takes none.
abbrev pub TakesFirst : Came → List ℕ → List Datagram → List Datagram → Type 0
TakesFirst (came.Datagram peer n) into before now = before ≡ (peer, take n into) ∷ now
TakesFirst came.TooLong into before now =
    (long : Datagram) × ((MAX_DATAGRAM < length long.1) × (before ≡ long ∷ now))
TakesFirst came.Nothing into before now = (before ≡ []) × (now ≡ [])
TakesFirst came.Failed into before now = now ≡ before

-- States that a send appends the datagram to those that are gone. A failure appends nothing.
abbrev pub AddsLast : Went → Datagram → List Datagram → List Datagram → Type 0
AddsLast went.Sent datagram before now = now ≡ before ++ datagram ∷ []
AddsLast went.Failed datagram before now = now ≡ before

-- States that the count rose if the receive failed, and is the same otherwise.
abbrev pub CountsReceived : ℕ → ℕ → Came → Type 0
CountsReceived before now (came.Datagram peer n) = now ≡ before
CountsReceived before now came.TooLong = now ≡ before
CountsReceived before now came.Nothing = now ≡ before
CountsReceived before now came.Failed = (before ≤ now) × Rose before now

-- States that the count rose if the send failed, and is the same otherwise.
abbrev pub CountsSent : ℕ → ℕ → Went → Type 0
CountsSent before now went.Sent = now ≡ before
CountsSent before now went.Failed = (before ≤ now) × Rose before now

-- States that this call was made and no other, if the link exposes its calls.
abbrev pub Calls : LinkCall → Option (List LinkCall) → Option (List LinkCall) → Type 0
Calls call before now = WhereTold (λ old new. new ≡ call ∷ old) before now

-- States that this datagram was delivered whole, or that it is longer than the limit.
abbrev pub IsDelivered : Came → Datagram → List ℕ → Type 0
IsDelivered (came.Datagram peer n) datagram into =
    (n ≤ MAX_DATAGRAM) × ((peer, take n into) ≡ datagram)
IsDelivered came.TooLong datagram into = MAX_DATAGRAM < length datagram.1
IsDelivered came.Nothing datagram into = ⊥
IsDelivered came.Failed datagram into = ⊥
